-- A grant, put together of what its parts ensure.
use Rattle.std.proofs.Common.{◌≡◌, ℕ, ◌+◌, ◌-◌, ◌^◌, ◌<◌, refl, Bool, true, false, ◌&&◌, ◌||◌, not, [], ◌∷◌, ◌++◌, ap, ◌∙◌, sym, subst, arith, filter, find}
use Rattle.std.specs.Prelude.{Option, None, Some, Result, ◌≤◌, nat_le, nat_lt, Ok, Err}
use Rattle.std.specs.Option.{option_map, option_or}
use Rattle.std.proofs.lemmas.Bool.Decides.{nat_tests}
use Rattle.ob_base.specs.declared.fault.Fault.{Fault}
use Rattle.ob_base.specs.declared.fault.Fault.TheVariants.{Refused}
use Rattle.ob_base.specs.declared.status.Status.{Status}
use Rattle.ob_base.specs.declared.status.Status.TheVariants.{InvalidParameter, AccessDenied, InsufficientResources, TypeRefused}
use Rattle.ob_model.specs.State.{State, table_size, most_handles, greatest_number}
use Rattle.ob_model.specs.declared.terms.Reason.{Reason}
use Rattle.ob_model.specs.Procedures.{Procedures}
use Rattle.ob_model.specs.Closing.{is_handle}
use Rattle.ob_model.specs.declared.terms.GrantOptions.{GrantOptions}
use Rattle.ob_model.specs.Grants.{IsHandleValue, first_refusal, is_exclusive, has_other_holder, is_table_full, with_open, with_handle, Grants}
use Rattle.ob_objects.specs.Store.{Entries, Shows, objects_of, rows_of}
use Rattle.ob_objects.specs.Changes.{refusal_to_open, with_opened, set_after_open}
use Rattle.ob_objects.proofs.Shown.{opened_is_machines}
use Rattle.ob_objects.proofs.Follow.{refusal_is_machines, set_after_open_is_machines}
use Rattle.ob_processes.specs.Running.{Running}
use Rattle.ob_space.specs.Found.{early_grant_refusal, refusal_before_room}
use Rattle.ob_space.specs.Namespace.{Parts, state_of}
use Rattle.ob_space.specs.Orderly.{IsOrderly}
use Rattle.ob_space.proofs.Handles.{is_itself, taken_back}
use Rattle.ob_space.proofs.Orders.{granted_orderly}

-- a table that isn't full has room
pub has_room : {K T F I : Type 0} (s : State K T F I) (p : ℕ) → is_table_full s p ≡ false → table_size s p < most_handles
has_room s p h = go (nat_le most_handles (table_size s p)) refl h
  where
    go : (b : Bool) → nat_le most_handles (table_size s p) ≡ b → (b || nat_lt (2 ^ 64 - 2) s.next_order) ≡ false → table_size s p < most_handles
    go true e h = cc
    go false e h = grind (arith, nat_tests)

last_test : (a b c d : Bool) (x y z w : Status) → first_refusal ((a, x) ∷ (b, y) ∷ (c, z) ∷ (d, w) ∷ []) ≡ None → d ≡ false
last_test true b c d x y z w h = cc
last_test false true c d x y z w h = cc
last_test false false true d x y z w h = cc
last_test false false false true x y z w h = cc
last_test false false false false x y z w h = refl

-- what is refused before the room in the table is judged is refused so, whatever room there is
kept : (a b c d e : Bool) (x y z w status : Status) → first_refusal ((a, x) ∷ (b, y) ∷ (c, z) ∷ (e, w) ∷ []) ≡ Some status → first_refusal ((a, x) ∷ (b, y) ∷ (c, z) ∷ (d || e, w) ∷ []) ≡ Some status
kept true b c d e x y z w status h = h
kept false true c d e x y z w status h = h
kept false false true d e x y z w status h = h
kept false false false true true x y z w status h = h
kept false false false false true x y z w status h = h
kept false false false d false x y z w status h = cc

-- where nothing is, all is granted that has room
with_room : (a b c d e : Bool) (x y z w : Status) → first_refusal ((a, x) ∷ (b, y) ∷ (c, z) ∷ (e, w) ∷ []) ≡ None → d ≡ false → first_refusal ((a, x) ∷ (b, y) ∷ (c, z) ∷ (d || e, w) ∷ []) ≡ None
with_room true b c d e x y z w h f = cc
with_room false true c d e x y z w h f = cc
with_room false false true d e x y z w h f = cc
with_room false false false d true x y z w h f = cc
with_room false false false true false x y z w h f = cc
with_room false false false false false x y z w h f = refl

-- and what has none is refused
pub without_room : (a b c d e : Bool) (x y z w : Status) → first_refusal ((a, x) ∷ (b, y) ∷ (c, z) ∷ (e, w) ∷ []) ≡ None → d ≡ true → first_refusal ((a, x) ∷ (b, y) ∷ (c, z) ∷ (d || e, w) ∷ []) ≡ Some w
without_room true b c d e x y z w h f = cc
without_room false true c d e x y z w h f = cc
without_room false false true d e x y z w h f = cc
without_room false false false false e x y z w h f = cc
without_room false false false true e x y z w h f = refl

-- a table that gave a handle had room
gave : (n : ℕ) (r : Result ℕ Fault) (value : ℕ) → r ≡ Ok value → (most_handles ≤ n → r ≡ Err (Refused InsufficientResources)) → nat_le most_handles n ≡ false
gave n r value is full = go (nat_le most_handles n) refl
  where
    go : (b : Bool) → nat_le most_handles n ≡ b → b ≡ false
    go false e = refl
    go true e =
        let refused = full (grind (arith, nat_tests)) in
        cc

module _ {K T F I : Type 0} (s : State K T F I) (p o : ℕ) (asked : GrantOptions) where
  pub refused_before : (status : Status) → refusal_before_room s p o asked ≡ Some status → early_grant_refusal s p o asked ≡ Some status
  refused_before status h = kept (asked.exclusive && not (is_exclusive s o)) (asked.inherit && is_exclusive s o) (is_exclusive s o && has_other_holder s p o) (nat_le most_handles (table_size s p)) (nat_lt greatest_number s.next_order) InvalidParameter InvalidParameter AccessDenied InsufficientResources status h

  pub not_refused : (before : Option Status) (r : Result ℕ Fault) (value : ℕ) → before ≡ refusal_before_room s p o asked → before ≡ None
      → r ≡ Ok value → (most_handles ≤ table_size s p → r ≡ Err (Refused InsufficientResources)) → None ≡ early_grant_refusal s p o asked
  not_refused before r value judged none is full = sym (with_room (asked.exclusive && not (is_exclusive s o)) (asked.inherit && is_exclusive s o) (is_exclusive s o && has_other_holder s p o) (nat_le most_handles (table_size s p)) (nat_lt greatest_number s.next_order) InvalidParameter InvalidParameter AccessDenied InsufficientResources (sym judged ∙ none) (gave (table_size s p) r value is full))

module _ (K : Type 0) {T F I : Type 0} (g : Procedures K T F I) (idle : I → Type 0) (a : Parts K T F I) (orderly : IsOrderly idle (state_of K a))
    (p o : ℕ) (asked : GrantOptions) (reason : Reason) (result : Option Status) (early_is : result ≡ first_refusal (
    (asked.exclusive && not (is_exclusive (state_of K a) o), InvalidParameter)
    ∷ (asked.inherit && is_exclusive (state_of K a) o, InvalidParameter)
    ∷ (is_exclusive (state_of K a) o && has_other_holder (state_of K a) p o, AccessDenied)
    ∷ (is_table_full (state_of K a) p, InsufficientResources) ∷ [])) where
  abbrev s : State K T F I
  s = state_of K a

  shows : Shows s a.store
  shows = record { objects = refl; rows = refl }

  module _ (early : result ≡ None) where
    none : first_refusal (
        (asked.exclusive && not (is_exclusive s o), InvalidParameter)
        ∷ (asked.inherit && is_exclusive s o, InvalidParameter)
        ∷ (is_exclusive s o && has_other_holder s p o, AccessDenied)
        ∷ (is_table_full s p, InsufficientResources) ∷ []) ≡ None
    none = sym early_is ∙ early

    not_full : is_table_full s p ≡ false
    not_full = last_test (asked.exclusive && not (is_exclusive s o)) (asked.inherit && is_exclusive s o) (is_exclusive s o && has_other_holder s p o) (is_table_full s p) InvalidParameter InvalidParameter AccessDenied InsufficientResources none

    room : table_size s p < most_handles
    room = has_room s p not_full

    module _ (value : ℕ) (running : Running) (valid : IsHandleValue value) (unused : find (is_handle p value) a.processes.handles ≡ None)
        (last : running.handles ≡ a.processes.handles ++ record { process = p; value = value; object = o; inherit = asked.inherit; order = a.next_order } ∷ [])
        (same : running.processes ≡ a.processes.processes) where
      -- a refusal by the set, after which the handle is taken back
      module _ (code : ℕ) (set : T) (store : Entries F I) (left : Running) (refused : refusal_to_open g a.store a.set o reason ≡ Some code)
          (set_is : set ≡ a.set) (store_is : store ≡ a.store)
          (taken : left.handles ≡ filter (λ h. not (is_handle p value h)) running.handles) (processes : left.processes ≡ running.processes) where
        is_back : record s { set = set; objects = objects_of store; rows = rows_of store; handles = left.handles; processes = left.processes } ≡ s
        is_back =
            let back = taken ∙ ap (filter (λ h. not (is_handle p value h))) last ∙ taken_back p value a.processes.handles _ unused (is_itself p value) in
            (λ i. record s { set = set_is i; objects = objects_of (store_is i); rows = rows_of (store_is i); handles = back i; processes = (processes ∙ same) i })

        pub refused_by_set : Grants g s p o asked reason (Err (TypeRefused code)) (record s { set = set; objects = objects_of store; rows = rows_of store; handles = left.handles; processes = left.processes })
        refused_by_set = (
          (λ i. option_or (none i) (option_map TypeRefused ((sym (refusal_is_machines g s a.store shows o reason) ∙ refused) i))),
          is_back,
        )

        pub refused_is_orderly : IsOrderly idle (record s { set = set; objects = objects_of store; rows = rows_of store; handles = left.handles; processes = left.processes })
        refused_is_orderly = subst (λ (t : State K T F I). IsOrderly idle t) (sym is_back) orderly

      module _ (accepted : refusal_to_open g a.store a.set o reason ≡ None) (set : T) (store : Entries F I)
          (set_is : set ≡ set_after_open g a.store a.set o reason) (store_is : store ≡ with_opened g a.store a.set o reason) where
        is_granted_state : record s { set = set; objects = objects_of store; rows = rows_of store; handles = running.handles; processes = running.processes; next_order = a.next_order + 1 } ≡ with_handle (with_open g s o reason) p value o asked.inherit
        is_granted_state =
            let both = opened_is_machines g a.store a.set o reason in
            (λ i. record s {
              set = (set_is ∙ set_after_open_is_machines g s a.store shows o reason) i;
              objects = (ap objects_of store_is ∙ both.0) i;
              rows = (ap rows_of store_is ∙ both.1) i;
              handles = last i;
              processes = same i;
              next_order = a.next_order + 1;
            })

        pub granted : Grants g s p o asked reason (Ok value) (record s { set = set; objects = objects_of store; rows = rows_of store; handles = running.handles; processes = running.processes; next_order = a.next_order + 1 })
        granted = (
          (λ i. option_or (none i) (option_map TypeRefused ((sym (refusal_is_machines g s a.store shows o reason) ∙ accepted) i))),
          (valid, unused),
          is_granted_state,
        )

        pub granted_is_orderly : IsOrderly idle (record s { set = set; objects = objects_of store; rows = rows_of store; handles = running.handles; processes = running.processes; next_order = a.next_order + 1 })
        granted_is_orderly =
            subst (λ (t : State K T F I). IsOrderly idle t) (sym is_granted_state)
            (granted_orderly g idle s p value o reason asked.inherit orderly room)
