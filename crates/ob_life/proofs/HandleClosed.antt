-- A close of a handle, put together of what its parts ensure.
use Rattle.std.proofs.Common.{◌≡◌, ℕ, ◌*◌, ◌<◌, ◌≤◌, ◌==◌, true, ◌&&◌, ◌^◌, not, Bool, List, length, refl, ap, ◌∙◌, sym, subst, arith, filter, map}
use Rattle.std.specs.Prelude.{Some, All, count_by}
use Rattle.std.specs.Option.{option_map_or}
use Rattle.std.proofs.lemmas.List.Sums.{count_by-le-length, length-filter}
use Rattle.ob_model.specs.declared.state.Held.{Held}
use Rattle.ob_model.specs.State.{State, held_of, body_of}
use Rattle.ob_model.specs.Procedures.{Procedures}
use Rattle.ob_model.specs.Sound.{IsSound}
use Rattle.ob_model.specs.Closing.{is_handle, closed_set, closed_object, closed_handle}
use Rattle.ob_objects.specs.Store.{Entries, objects_of, rows_of}
use Rattle.ob_objects.specs.Changes.{with_closed, set_after_close}
use Rattle.ob_objects.proofs.Shown.{closed_is_machines}
use Rattle.ob_objects.proofs.Follow.{set_after_close_is_machines}
use Rattle.ob_processes.specs.Running.{Running}
use Rattle.ob_space.specs.Namespace.{Parts, state_of}
use Rattle.ob_space.specs.Orderly.{IsOrderly}
use Rattle.ob_space.proofs.Handles.{only_handle, few_of_all}
use Rattle.ob_space.proofs.Orders.{closed_orderly}

-- in a sound state no other handle is taken for one that a process holds
pub held_alone : {K T F I : Type 0} (s : State K T F I) (p value : ℕ) (h : Held) → IsSound s → held_of s p value ≡ Some h → All (λ k. is_handle p value k ≡ true → k.object ≡ h.object) s.handles
held_alone s p value h sound held = only_handle p value s.handles h sound.handles.distinct held

module _ (K : Type 0) {T F I : Type 0} (g : Procedures K T F I) (idle : I → Type 0) (a : Parts K T F I) (orderly : IsOrderly idle (state_of K a)) (sound : IsSound (state_of K a))
    (h : Held) (held : held_of (state_of K a) h.process h.value ≡ Some h) (running : Running) (taken : running.handles ≡ filter (λ k. not (is_handle h.process h.value k)) a.processes.handles)
    (same : running.processes ≡ a.processes.processes) where
  abbrev s : State K T F I
  s = state_of K a

  -- a count of the handles that are left is small
  pub few_left : (test : Held → Bool) (count : ℕ) → count ≡ count_by test running.handles → count < 2 ^ 32
  few_left test count counted =
      let all : length s.handles ≤ length s.processes * 65535 = few_of_all s.processes s.handles sound.handles.live orderly.few_handles in
      let crowd : length s.processes ≤ 1024 = orderly.few_processes in
      let left : length running.handles ≡ count_by (λ k. not (is_handle h.process h.value k)) s.handles = ap length taken ∙ length-filter (λ k. not (is_handle h.process h.value k)) s.handles in
      let fewer = count_by-le-length (λ k. not (is_handle h.process h.value k)) s.handles in
      let least = count_by-le-length test running.handles in
      omega (arith, counted, all, crowd, left, fewer, least)

  module _ (process_left system_left : ℕ) (set : T) (store : Entries F I)
      (left : process_left ≡ count_by (λ k. (k.process == h.process) && (k.object == h.object)) running.handles)
      (total : system_left ≡ count_by (λ k. k.object == h.object) running.handles)
      (set_is : set ≡ set_after_close g a.store a.set h.object process_left system_left)
      (store_is : store ≡ with_closed g a.store a.set h.object process_left system_left) where
    abbrev kept : List Held
    kept = filter (λ k. not (is_handle h.process h.value k)) s.handles

    -- the handles that are left, counted in the state
    in_process : process_left ≡ count_by (λ k. (k.process == h.process) && (k.object == h.object)) kept
    in_process = left ∙ ap (count_by (λ k. (k.process == h.process) && (k.object == h.object))) taken

    in_all : system_left ≡ count_by (λ k. k.object == h.object) kept
    in_all = total ∙ ap (count_by (λ k. k.object == h.object)) taken

    pub is_closed : record s { objects = objects_of store; rows = rows_of store; handles = running.handles; processes = running.processes; set = set } ≡ closed_handle g s h
    is_closed =
        let both = closed_is_machines g a.store a.set h.object process_left system_left in
        let set_then = set_is ∙ set_after_close_is_machines g s a.store (record { objects = refl; rows = refl }) h.object process_left system_left in
        (λ i. record s { objects = (ap objects_of store_is ∙ both.0) i; rows = (ap rows_of store_is ∙ both.1) i; handles = taken i; processes = same i; set = set_then i })
        ∙ (λ i. record s {
          objects = map (closed_object g s.set h.object (in_process i) (in_all i)) s.objects;
          handles = kept;
          set = option_map_or (closed_set g s.set (in_process i) (in_all i)) (body_of s h.object) s.set;
        })

    pub closed_is_orderly : ((set : T) (inner : I) (process_left : ℕ) → idle ((g.closed set inner process_left 0).1))
        → IsOrderly idle (record s { objects = objects_of store; rows = rows_of store; handles = running.handles; processes = running.processes; set = set })
    closed_is_orderly last_idle =
        subst (λ (t : State K T F I). IsOrderly idle t) (sym is_closed) (closed_orderly g idle last_idle s h orderly (held_alone s h.process h.value h sound held))
