-- The end of each step: the names and objects that stay, and the deletes of those that go.
--
-- Sources: Windows Internals, Object Manager (object retention: handle and reference counts,
-- temporary and permanent objects); ZwMakeTemporaryObject and ZwMakePermanentObject (Windows Driver
-- Kit). That it is judged once, at the end of a step, that a directory keeps its shadow, and the order of
-- the deletes, are this profile.
use Rattle.std.specs.Prelude.{◌≡◌, ℕ, Bool, true, false, ◌&&◌, ◌||◌, not, ◌==◌, List, [], ◌∷◌, All, filter}
use Rattle.std.specs.List.{list_any}
use Rattle.std.specs.Option.{option_map_or}
use Rattle.ob_model.specs.declared.state.Body.{Body}
use Rattle.ob_model.specs.declared.state.Body.TheVariants.{Directory, Link, Other}
use Rattle.ob_model.specs.declared.state.Object.{Object}
use Rattle.ob_model.specs.declared.state.Row.{Row}
use Rattle.ob_model.specs.State.{State, root_id, global_id, shadow_in, object_of}
use Rattle.ob_model.specs.Procedures.{Procedures}

-- a body is that of a directory with this shadow
abbrev pub has_shadow : {F I : Type 0} → ℕ → Body F I → Bool
has_shadow o body = option_map_or (λ shadow. shadow == o) (shadow_in body) false

module _ {K T F I : Type 0} where
  -- an object is permanent
  abbrev pub is_permanent : State K T F I → ℕ → Bool
  is_permanent s o = option_map_or (λ x. x.permanent) (object_of s o) false

  -- an object has a handle
  abbrev pub has_handle : State K T F I → ℕ → Bool
  has_handle s o = list_any (λ h. h.object == o) s.handles

  -- a name stays where its object is permanent or has a handle
  abbrev pub is_kept : State K T F I → Row → Bool
  is_kept s r = is_permanent s r.object || has_handle s r.object

  -- an object has a name
  abbrev pub has_name : State K T F I → ℕ → Bool
  has_name s o = list_any (λ r. r.object == o) s.rows

  -- a pending open pins an object
  abbrev pub is_pinned : State K T F I → ℕ → Bool
  is_pinned s o = list_any (λ p. p.object == o) s.pending

  -- an object is the map directory of a live process, or `\GLOBAL??`
  abbrev pub is_mapped : State K T F I → ℕ → Bool
  is_mapped s o = (o == global_id) || list_any (λ p. option_map_or (λ d. d == o) p.map false) s.processes

  -- a name that stays lies in a directory
  abbrev pub holds_kept : State K T F I → ℕ → Bool
  holds_kept s o = list_any (λ r. (r.directory == o) && is_kept s r) s.rows

  -- an object stays by itself
  abbrev pub is_alive_itself : State K T F I → ℕ → Bool
  is_alive_itself s o = (o == root_id) || has_handle s o || is_pinned s o || is_mapped s o || (is_permanent s o && has_name s o) || holds_kept s o

  -- an object is the shadow of a directory that stays by itself
  abbrev pub is_shadowing : State K T F I → ℕ → Bool
  is_shadowing s o = list_any (λ x. has_shadow o x.body && is_alive_itself s x.id) s.objects

  -- an object stays
  abbrev pub is_alive : State K T F I → ℕ → Bool
  is_alive s o = is_alive_itself s o || is_shadowing s o

  -- what is settled: each name stays, and each object does
  pub record IsSettled (s : State K T F I) : Type 0 where
    pub names : All (λ r. is_kept s r ≡ true) s.rows
    pub objects : All (λ x. is_alive s x.id ≡ true) s.objects

module _ {K T F I : Type 0} (g : Procedures K T F I) where
  -- what the delete of one object makes of the set's value
  abbrev pub deleted_one : Body F I → T → T
  deleted_one (Directory shadow) set = set
  deleted_one (Link target) set = set
  deleted_one (Other face inner) set = g.deleted set inner

  -- the deletes of these objects, by rising numbers, from the last one back
  abbrev pub deleted_all : T → List (Object F I) → T
  deleted_all set [] = set
  deleted_all set (o ∷ os) = deleted_one o.body (deleted_all set os)

  -- the state with the names and the objects that stay, both judged in the state as it is; the
  -- other objects are deleted, from the highest number down
  abbrev pub settle : State K T F I → State K T F I
  settle s = record s {
    objects = filter (λ x. is_alive s x.id) s.objects;
    rows = filter (is_kept s) s.rows;
    set = deleted_all s.set (filter (λ x. not (is_alive s x.id)) s.objects);
  }
