-- What an open for a child, and a handle that is taken from it again, make of the state.
use Rattle.std.proofs.Common.{◌≡◌, ◌∙◌, ℕ, true, false, not, filter, None, Some, MatchOption, refl, ap, sym, subst}
use Rattle.ob_model.specs.declared.state.Held.{Held}
use Rattle.ob_model.specs.State.{State}
use Rattle.ob_model.specs.declared.terms.Reason.TheVariants.{Inherited}
use Rattle.ob_model.specs.Procedures.{Procedures}
use Rattle.ob_model.specs.Grants.{open_refusal, with_open}
use Rattle.ob_model.specs.Closing.{is_handle}
use Rattle.ob_objects.specs.Store.{Entries, Shows, objects_of, rows_of}
use Rattle.ob_objects.specs.Changes.{refusal_to_open, with_opened, set_after_open}
use Rattle.ob_objects.proofs.Shown.{opened_is_machines}
use Rattle.ob_objects.proofs.Follow.{refusal_is_machines, set_after_open_is_machines}
use Rattle.ob_processes.specs.Running.{Running}
use Rattle.ob_space.specs.Namespace.{Parts, state_of}

module _ (K : Type 0) {T F I : Type 0} (g : Procedures K T F I) (a : Parts K T F I) (child : ℕ) (h : Held) (set : T) (store : Entries F I) where
  abbrev s : State K T F I
  s = state_of K a

  shows : Shows s a.store
  shows = record { objects = refl; rows = refl }

  pub one_opened : refusal_to_open g a.store a.set h.object Inherited ≡ None
      → set ≡ set_after_open g a.store a.set h.object Inherited → store ≡ with_opened g a.store a.set h.object Inherited
      → MatchOption (open_refusal g s h.object Inherited)
      ((true ≡ true) × (record s { set = set; objects = objects_of store; rows = rows_of store } ≡ with_open g s h.object Inherited))
      (λ _. (true ≡ false) × (record s { set = set; objects = objects_of store; rows = rows_of store } ≡ record s { handles = filter (λ x. not (is_handle child h.value x)) s.handles }))
  one_opened accepted set_is store_is =
      subst (λ r. MatchOption r
      ((true ≡ true) × (record s { set = set; objects = objects_of store; rows = rows_of store } ≡ with_open g s h.object Inherited))
      (λ _. (true ≡ false) × (record s { set = set; objects = objects_of store; rows = rows_of store } ≡ record s { handles = filter (λ x. not (is_handle child h.value x)) s.handles })))
      (sym (sym (refusal_is_machines g s a.store shows h.object Inherited) ∙ accepted)) (refl, same)
    where
      same : record s { set = set; objects = objects_of store; rows = rows_of store } ≡ with_open g s h.object Inherited
      same =
          let both = opened_is_machines g a.store a.set h.object Inherited in
          (λ i. record s {
            set = (set_is ∙ set_after_open_is_machines g s a.store shows h.object Inherited) i;
            objects = (ap objects_of store_is ∙ both.0) i;
            rows = (ap rows_of store_is ∙ both.1) i;
          })

  pub one_refused : (code : ℕ) (left : Running) → refusal_to_open g a.store a.set h.object Inherited ≡ Some code → set ≡ a.set → store ≡ a.store
      → left.handles ≡ filter (λ x. not (is_handle child h.value x)) a.processes.handles → left.processes ≡ a.processes.processes
      → MatchOption (open_refusal g s h.object Inherited)
      ((false ≡ true) × (record s { set = set; objects = objects_of store; rows = rows_of store; handles = left.handles; processes = left.processes } ≡ with_open g s h.object Inherited))
      (λ _. (false ≡ false) × (record s { set = set; objects = objects_of store; rows = rows_of store; handles = left.handles; processes = left.processes } ≡ record s { handles = filter (λ x. not (is_handle child h.value x)) s.handles }))
  one_refused code left refused set_is store_is taken processes =
      subst (λ r. MatchOption r
      ((false ≡ true) × (record s { set = set; objects = objects_of store; rows = rows_of store; handles = left.handles; processes = left.processes } ≡ with_open g s h.object Inherited))
      (λ _. (false ≡ false) × (record s { set = set; objects = objects_of store; rows = rows_of store; handles = left.handles; processes = left.processes } ≡ record s { handles = filter (λ x. not (is_handle child h.value x)) s.handles })))
      (sym (sym (refusal_is_machines g s a.store shows h.object Inherited) ∙ refused))
      (refl, (λ i. record s { set = set_is i; objects = objects_of (store_is i); rows = rows_of (store_is i); handles = taken i; processes = processes i }))
