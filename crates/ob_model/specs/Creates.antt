-- A create past its refusals: it finds its place taken, and is refused or opens what is
-- there, or it makes the object that it asks for.
--
-- Sources: ZwCreateDirectoryObject, ZwCreateSymbolicLinkObject, ZwCreateEvent and OBJECT_ATTRIBUTES structure
-- (OBJ_OPENIF, OBJ_PERMANENT, OBJ_CASE_INSENSITIVE; Windows Driver Kit); Windows Internals, Object Manager (object types and their methods). The order
-- of refusals, and that a new object whose open is refused is deleted under its number, are this profile.
use Rattle.std.specs.Prelude.{◌≡◌, ℕ, ◌+◌, Bool, true, false, ◌&&◌, ◌||◌, not, nat_lt, List, [], ◌∷◌, ◌++◌, length, Option, None, Some, MatchOption, MatchBool}
use Rattle.std.specs.Option.{is_some}
use Rattle.std.specs.Str.{bytes_eq}
use Rattle.ob_base.specs.declared.status.Status.{Status}
use Rattle.ob_base.specs.declared.status.Status.TheVariants.{Success, ObjectNameExists, ObjectNameCollision, InsufficientResources, TypeRefused}
use Rattle.ob_base.specs.Attrs.{has_flag, inherit_flag, permanent_flag, exclusive_flag, case_insensitive_flag, open_if_flag}
use Rattle.ob_model.specs.declared.reply.Answer.{Answer}
use Rattle.ob_model.specs.declared.reply.Given.TheVariants.{Handle}
use Rattle.ob_model.specs.declared.state.Body.{Body}
use Rattle.ob_model.specs.declared.state.Body.TheVariants as body
use Rattle.ob_model.specs.declared.state.Row.{Row}
use Rattle.ob_model.specs.declared.state.Wanted.{Wanted}
use Rattle.ob_model.specs.declared.state.Wanted.TheVariants as wanted
use Rattle.ob_model.specs.Names.{is_name}
use Rattle.ob_model.specs.State.{State, greatest_number, is_store_full, insert_object}
use Rattle.ob_model.specs.declared.terms.Mode.{Mode}
use Rattle.ob_model.specs.Looks.{Look, At, Vacant, Parse, Refused}
use Rattle.ob_model.specs.declared.terms.Reason.TheVariants.{Created}
use Rattle.ob_model.specs.Procedures.{Procedures}
use Rattle.ob_model.specs.Settle.{settle, deleted_one}
use Rattle.ob_model.specs.Grants.{is_table_full, IsFreeValue, with_handle, open_refusal_of, opened_body, opened_set}
use Rattle.ob_model.specs.Refusals.{gives, answers, IsRefused, Unless}
use Rattle.ob_model.specs.Opens.{OpensAt}

-- what a create makes: a directory with this shadow or without one, a link with this target, or an
-- object of a kind of the set with these arguments
pub data Making (K : Type 0) : Type 0 where
  MakesDirectory : Option ℕ → Making K
  MakesLink : List ℕ → Making K
  MakesObject : K → List ℕ → Making K

-- the type of what a create makes
abbrev pub type_made : {K : Type 0} → Making K → Wanted K
type_made (MakesDirectory shadow) = wanted.Directory
type_made (MakesLink target) = wanted.Link
type_made (MakesObject kind args) = wanted.Kind kind

-- whether its parameters are fit: a link's target has 1 to 32,767 bytes of the profile; the arguments
-- of an object of the set are for the set to judge
abbrev pub is_fit : {K : Type 0} → Making K → Bool
is_fit (MakesDirectory shadow) = true
is_fit (MakesLink target) = is_name target && not (bytes_eq target [])
is_fit (MakesObject kind args) = true

-- how the name of a create is looked up: a link that the last component names is not followed
abbrev pub create_mode : ℕ → Mode
create_mode attrs = record { create = true; fold = has_flag case_insensitive_flag attrs; follow = false }

-- where what a create makes is to be: at a name in a directory, or nowhere
abbrev pub Spot : Type 0
Spot = Option (ℕ × List ℕ)

-- the row of a new object: none where it is nowhere
abbrev pub new_rows : Spot → ℕ → ℕ → List Row
new_rows None stamp o = []
new_rows (Some spot) stamp o = record { stamp = stamp; directory = spot.0; name = spot.1; object = o } ∷ []

module _ {K T F I : Type 0} where
  -- no stamp is left for a row
  abbrev pub is_stampless : State K T F I → Bool
  is_stampless s = nat_lt greatest_number s.next_stamp

  -- the refusal of a create for which no handle, no object or no row fits
  abbrev pub room_refusals : State K T F I → ℕ → Spot → List (Bool × Status)
  room_refusals s p spot = (is_table_full s p || is_store_full s || (is_some spot && is_stampless s), InsufficientResources) ∷ []

  -- the state with a new object, and with the row of an object
  abbrev pub with_object : State K T F I → Body F I → Bool → Bool → State K T F I
  with_object s body permanent exclusive = record s {
    objects = insert_object (record { id = s.next_id; body = body; permanent = permanent; exclusive = exclusive }) s.objects;
    next_id = s.next_id + 1;
  }

  abbrev pub with_row : State K T F I → Spot → ℕ → State K T F I
  with_row s spot o = record s {
    rows = s.rows ++ new_rows spot s.next_stamp o;
    next_stamp = s.next_stamp + length (new_rows spot s.next_stamp o);
  }

module _ {K T F I : Type 0} (g : Procedures K T F I) where
  -- the number with which the set refuses to make it; directories and links are not the set's
  abbrev pub make_refusal : Making K → Option ℕ
  make_refusal (MakesDirectory shadow) = None
  make_refusal (MakesLink target) = None
  make_refusal (MakesObject kind args) = g.refuses_to_make kind args

  -- the body of what is made
  abbrev pub body_made : Making K → Body F I
  body_made (MakesDirectory shadow) = body.Directory shadow
  body_made (MakesLink target) = body.Link target
  body_made (MakesObject kind args) = let made = g.made kind args in body.Other made.0 made.1

  -- the state with a new object of this body, as its open left it, with its row and the creator's
  -- handle, before it settles; an object without a name is not permanent
  abbrev pub created : State K T F I → ℕ → Spot → Body F I → ℕ → ℕ → State K T F I
  created s p spot body attrs value =
      let opened = record s { set = opened_set g s.set body Created } in
      let there = with_object opened (opened_body g s.set body Created) (is_some spot && has_flag permanent_flag attrs) (has_flag exclusive_flag attrs) in
      with_handle (with_row there spot s.next_id) p value s.next_id (has_flag inherit_flag attrs)

  -- the state after the set refused to open a new object of this body: the object is deleted, and its
  -- number stays drawn
  abbrev pub dropped : State K T F I → Body F I → State K T F I
  dropped s body = record s { next_id = s.next_id + 1; set = deleted_one g body s.set }

  -- what is made at a spot where there is room for it: the set refuses to make it or to open it, or it
  -- is there with a handle of any free value
  abbrev pub MakesInRoom : State K T F I → ℕ → ℕ → Making K → Spot → Answer → State K T F I → Type 0
  MakesInRoom s p attrs making spot answer t =
      MatchOption (make_refusal making)
      (MatchOption (open_refusal_of g s.set (body_made making) Created)
      ((value : ℕ) × IsFreeValue s p value × (answer ≡ gives Success (Handle value)) × (t ≡ settle g (created s p spot (body_made making) attrs value)))
      (λ k. (answer ≡ answers (TypeRefused k)) × (t ≡ dropped s (body_made making))))
      (λ k. IsRefused s (TypeRefused k) answer t)

  -- what is made at a spot, where there is room
  abbrev pub Makes : State K T F I → ℕ → ℕ → Making K → Spot → Answer → State K T F I → Type 0
  Makes s p attrs making spot answer t = Unless (room_refusals s p spot) s answer t (MakesInRoom s p attrs making spot answer t)

  -- what the lookup of a create's name leads to: a refusal, an object that is there already, or a
  -- vacant place
  abbrev pub Creates : State K T F I → ℕ → ℕ → Making K → Look → Answer → State K T F I → Type 0
  Creates s p attrs making (Refused status) answer t = IsRefused s status answer t
  Creates s p attrs making (At o) answer t =
      MatchBool (has_flag open_if_flag attrs) (OpensAt g s p attrs (type_made making) ObjectNameExists o answer t)
      (IsRefused s ObjectNameCollision answer t)
  Creates s p attrs making (Parse o rest n) answer t = ⊥
  Creates s p attrs making (Vacant d c) answer t = Makes s p attrs making (Some (d, c)) answer t
