-- What depends on a state but for the values of its handles: the refusals of a grant, of a create and of a new
-- process, what settles, and what a handle that comes or a process that begins leaves.
use Rattle.std.proofs.Common.{◌≡◌, ◌∙◌, ℕ, ◌+◌, ◌==◌, Bool, true, false, ◌&&◌, ◌||◌, not, cond, List, [], ◌∷◌, filter, map, length, Option, None, Some, refl, ap, sym}
use Rattle.std.specs.Prelude.{count_by, nat_le, nat_lt}
use Rattle.std.specs.List.{list_any}
use Rattle.std.specs.Option.{option_map, option_map_or, option_or, is_some}
use Rattle.std.proofs.lemmas.List.{map-append, length-map}
use Rattle.std.proofs.lemmas.List.Sums.{length-filter}
use Rattle.ob_base.specs.declared.status.Status.TheVariants.{InvalidParameter, AccessDenied, InsufficientResources, TypeRefused}
use Rattle.ob_model.specs.declared.state.Held.{Held}
use Rattle.ob_model.specs.declared.state.Row.{Row}
use Rattle.ob_model.specs.State.{State, root_id, body_of, handle_count, handle_count_in, table_size, most_handles, greatest_number, greatest_process, is_store_full}
use Rattle.ob_model.specs.declared.terms.Mode.{Mode}
use Rattle.ob_model.specs.Looks.{Look, LooksUp}
use Rattle.ob_model.specs.Naming.{TellsName}
use Rattle.ob_model.specs.declared.reply.Answer.{Answer}
use Rattle.ob_model.specs.declared.terms.Reason.{Reason}
use Rattle.ob_model.specs.declared.terms.Reason.TheVariants.{Inherited}
use Rattle.ob_model.specs.Procedures.{Procedures}
use Rattle.ob_model.specs.Settle.{has_shadow, settle, has_handle, has_name, is_permanent, is_pinned, is_mapped, deleted_all}
use Rattle.ob_model.specs.Permanence.{turned, with_permanence}
use Rattle.ob_model.specs.declared.terms.GrantOptions.{GrantOptions}
use Rattle.ob_model.specs.Grants.{first_refusal, is_exclusive, has_other_holder, is_table_full, with_handle, open_refusal, with_open, grant_refusal}
use Rattle.ob_model.specs.Closing.{with_close, closed_object, closed_set}
use Rattle.ob_model.specs.Creates.{Spot, is_stampless, room_refusals}
use Rattle.ob_model.specs.Processes.{most_processes, handles_in, values_in, inherited_from, is_crowded, with_child, inherits_one, inherits, begun}
use Rattle.ob_model.specs.Alike.{unvalued_handle, unvalued}

-- a test that doesn't read the values of handles: whether any passes, which do, and how many
any_unvalued : (test : Held → Bool) → ((h : Held) → test (unvalued_handle h) ≡ test h) → (hs : List Held) → list_any test (map unvalued_handle hs) ≡ list_any test hs
any_unvalued test same [] = refl
any_unvalued test same (h ∷ hs) = λ i. same h i || any_unvalued test same hs i

pub filter_unvalued : (test : Held → Bool) → ((h : Held) → test (unvalued_handle h) ≡ test h) → (hs : List Held)
    → filter test (map unvalued_handle hs) ≡ map unvalued_handle (filter test hs)
filter_unvalued test same [] = refl
filter_unvalued test same (h ∷ hs) =
    (λ i. cond (same h i) (unvalued_handle h ∷ filter_unvalued test same hs i) (filter_unvalued test same hs i)) ∙ go (test h)
  where
    go : (b : Bool) → cond b (unvalued_handle h ∷ map unvalued_handle (filter test hs)) (map unvalued_handle (filter test hs)) ≡ map unvalued_handle (cond b (h ∷ filter test hs) (filter test hs))
    go true = refl
    go false = refl

count_unvalued : (test : Held → Bool) → ((h : Held) → test (unvalued_handle h) ≡ test h) → (hs : List Held) → count_by test (map unvalued_handle hs) ≡ count_by test hs
count_unvalued test same hs =
    sym (length-filter test (map unvalued_handle hs)) ∙ ap length (filter_unvalued test same hs) ∙ length-map (filter test hs) unvalued_handle ∙ length-filter test hs

-- zeroes for values, and the values of handles without theirs
zeroes : (hs : List Held) → map (λ value. 0) (map (λ h. h.value) hs) ≡ map (λ h. h.value) (map unvalued_handle hs)
zeroes [] = refl
zeroes (h ∷ hs) = ap (λ (ns : List ℕ). 0 ∷ ns) (zeroes hs)

module _ {K T F I : Type 0} where
  -- what doesn't read handles at all
  pub looks_up-unvalued : (g : Procedures K T F I) (s : State K T F I) (p : ℕ) (mode : Mode) (n : ℕ) (at : Option ℕ) (name : List ℕ) (look : Look)
      → LooksUp g s p mode n at name look → LooksUp g (unvalued s) p mode n at name look
  looks_up-unvalued g s p mode n at name look h = h

  pub looks_up-valued : (g : Procedures K T F I) (s : State K T F I) (p : ℕ) (mode : Mode) (n : ℕ) (at : Option ℕ) (name : List ℕ) (look : Look)
      → LooksUp g (unvalued s) p mode n at name look → LooksUp g s p mode n at name look
  looks_up-valued g s p mode n at name look h = h

  pub tells_name-unvalued : (s : State K T F I) (o : ℕ) (answer : Answer) → TellsName s o answer → TellsName (unvalued s) o answer
  tells_name-unvalued s o answer h = h

  -- which objects have handles, and how many there are
  has_handle-unvalued : (s : State K T F I) (o : ℕ) → has_handle (unvalued s) o ≡ has_handle s o
  has_handle-unvalued s o = any_unvalued (λ h. h.object == o) (λ h. refl) s.handles

  has_other_holder-unvalued : (s : State K T F I) (p o : ℕ) → has_other_holder (unvalued s) p o ≡ has_other_holder s p o
  has_other_holder-unvalued s p o = any_unvalued (λ h. (h.object == o) && not (h.process == p)) (λ h. refl) s.handles

  handle_count-unvalued : (s : State K T F I) (o : ℕ) → handle_count (unvalued s) o ≡ handle_count s o
  handle_count-unvalued s o = count_unvalued (λ h. h.object == o) (λ h. refl) s.handles

  handle_count_in-unvalued : (s : State K T F I) (p o : ℕ) → handle_count_in (unvalued s) p o ≡ handle_count_in s p o
  handle_count_in-unvalued s p o = count_unvalued (λ h. h.process == p && h.object == o) (λ h. refl) s.handles

  table_size-unvalued : (s : State K T F I) (p : ℕ) → table_size (unvalued s) p ≡ table_size s p
  table_size-unvalued s p = count_unvalued (λ h. h.process == p) (λ h. refl) s.handles

  pub handles_in-unvalued : (s : State K T F I) (p : ℕ) → handles_in (unvalued s) p ≡ map unvalued_handle (handles_in s p)
  handles_in-unvalued s p = filter_unvalued (λ h. h.process == p) (λ h. refl) s.handles

  pub inherited_from-unvalued : (s : State K T F I) (p : ℕ) (inherit : Bool) → inherited_from (unvalued s) p inherit ≡ map unvalued_handle (inherited_from s p inherit)
  inherited_from-unvalued s p inherit =
      ap (filter (λ h. h.inherit && inherit)) (handles_in-unvalued s p) ∙ filter_unvalued (λ h. h.inherit && inherit) (λ h. refl) (handles_in s p)

  pub values_in-unvalued : (s : State K T F I) (p : ℕ) → values_in (unvalued s) p ≡ map (λ value. 0) (values_in s p)
  values_in-unvalued s p = ap (map (λ h. h.value)) (handles_in-unvalued s p) ∙ sym (zeroes (handles_in s p))

  -- the refusals
  is_table_full-unvalued : (s : State K T F I) (p : ℕ) → is_table_full (unvalued s) p ≡ is_table_full s p
  is_table_full-unvalued s p = ap (λ n. nat_le most_handles n || nat_lt greatest_number s.next_order) (table_size-unvalued s p)

  pub room_refusals-unvalued : (s : State K T F I) (p : ℕ) (spot : Spot) → room_refusals (unvalued s) p spot ≡ room_refusals s p spot
  room_refusals-unvalued s p spot = λ i. (is_table_full-unvalued s p i || is_store_full s || (is_some spot && is_stampless s), InsufficientResources) ∷ []

  pub is_crowded-unvalued : (s : State K T F I) (p : ℕ) (inherit : Bool) → is_crowded (unvalued s) p inherit ≡ is_crowded s p inherit
  is_crowded-unvalued s p inherit =
      ap (λ n. nat_le most_processes (length s.processes) || nat_lt greatest_process s.next_process || nat_lt (greatest_number + 1) (s.next_order + n))
      (ap length (inherited_from-unvalued s p inherit) ∙ length-map (inherited_from s p inherit) unvalued_handle)

  -- a handle more
  pub with_handle-unvalued : (s : State K T F I) (p value o : ℕ) (inherit : Bool) → with_handle (unvalued s) p 0 o inherit ≡ unvalued (with_handle s p value o inherit)
  with_handle-unvalued s p value o inherit = λ i. record s {
    handles = sym (map-append unvalued_handle s.handles (record { process = p; value = value; object = o; inherit = inherit; order = s.next_order } ∷ [])) i;
    next_order = s.next_order + 1;
  }

  -- an object made permanent or temporary
  pub turned-unvalued : (s : State K T F I) (o : ℕ) (permanent : Bool) → turned (unvalued s) o permanent ≡ unvalued (turned s o permanent)
  turned-unvalued s o permanent = go (permanent && not (has_name s o))
    where
      go : (b : Bool) → cond b (unvalued s) (with_permanence (unvalued s) o permanent) ≡ unvalued (cond b s (with_permanence s o permanent))
      go true = refl
      go false = refl

module _ {K T F I : Type 0} (g : Procedures K T F I) where
  pub grant_refusal-unvalued : (s : State K T F I) (p o : ℕ) (asked : GrantOptions) (reason : Reason) → grant_refusal g (unvalued s) p o asked reason ≡ grant_refusal g s p o asked reason
  grant_refusal-unvalued s p o asked reason = λ i.
      option_or
      (first_refusal (
      (asked.exclusive && not (is_exclusive s o), InvalidParameter)
      ∷ (asked.inherit && is_exclusive s o, InvalidParameter)
      ∷ (is_exclusive s o && has_other_holder-unvalued s p o i, AccessDenied)
      ∷ (is_table_full-unvalued s p i, InsufficientResources) ∷ []))
      (option_map TypeRefused (open_refusal g s o reason))

  -- what a state settles to, where these objects have handles
  kept_by : (ℕ → Bool) → State K T F I → Row → Bool
  kept_by has s r = is_permanent s r.object || has r.object

  itself_by : (ℕ → Bool) → State K T F I → ℕ → Bool
  itself_by has s o =
      (o == root_id) || has o || is_pinned s o || is_mapped s o || (is_permanent s o && has_name s o) || list_any (λ r. (r.directory == o) && kept_by has s r) s.rows

  alive_by : (ℕ → Bool) → State K T F I → ℕ → Bool
  alive_by has s o = itself_by has s o || list_any (λ x. has_shadow o x.body && itself_by has s x.id) s.objects

  settled_by : (ℕ → Bool) → State K T F I → State K T F I
  settled_by has s = record s {
    objects = filter (λ x. alive_by has s x.id) s.objects;
    rows = filter (kept_by has s) s.rows;
    set = deleted_all g s.set (filter (λ x. not (alive_by has s x.id)) s.objects);
  }

  pub settle-unvalued : (s : State K T F I) → settle g (unvalued s) ≡ unvalued (settle g s)
  unfolding settled_by alive_by itself_by kept_by
  settle-unvalued s = λ i. settled_by (λ o. has_handle-unvalued s o i) (unvalued s)

  -- an object with the close procedure called
  pub with_close-unvalued : (s : State K T F I) (p o : ℕ) → with_close g (unvalued s) p o ≡ unvalued (with_close g s p o)
  with_close-unvalued s p o = λ i. record (unvalued s) {
    objects = map (closed_object g s.set o (handle_count_in-unvalued s p o i) (handle_count-unvalued s o i)) s.objects;
    set = option_map_or (closed_set g s.set (handle_count_in-unvalued s p o i) (handle_count-unvalued s o i)) (body_of s o) s.set;
  }

  -- a process that begins
  pub inherits_one-unvalued : (s : State K T F I) (child : ℕ) (h : Held) → inherits_one g (unvalued s) child (unvalued_handle h) ≡ unvalued (inherits_one g s child h)
  inherits_one-unvalued s child h = go (open_refusal g s h.object Inherited)
    where
      go : (o : Option ℕ)
          → option_map_or (λ _. record (unvalued s) { next_order = s.next_order + 1 }) o (with_handle (with_open g (unvalued s) h.object Inherited) child 0 h.object true)
          ≡ unvalued (option_map_or (λ _. record s { next_order = s.next_order + 1 }) o (with_handle (with_open g s h.object Inherited) child h.value h.object true))
      go None = with_handle-unvalued (with_open g s h.object Inherited) child h.value h.object true
      go (Some k) = refl

  inherits-unvalued : (s : State K T F I) (child : ℕ) (hs : List Held) → inherits g (unvalued s) child (map unvalued_handle hs) ≡ unvalued (inherits g s child hs)
  inherits-unvalued s child [] = refl
  inherits-unvalued s child (h ∷ hs) =
      ap (λ u. inherits g u child (map unvalued_handle hs)) (inherits_one-unvalued s child h) ∙ inherits-unvalued (inherits_one g s child h) child hs

  pub begun-unvalued : (s : State K T F I) (p : ℕ) (inherit : Bool) → begun g (unvalued s) p inherit ≡ unvalued (begun g s p inherit)
  begun-unvalued s p inherit =
      ap (λ hs. inherits g (unvalued (with_child s p)) s.next_process hs) (inherited_from-unvalued s p inherit)
      ∙ inherits-unvalued (with_child s p) s.next_process (inherited_from s p inherit)
