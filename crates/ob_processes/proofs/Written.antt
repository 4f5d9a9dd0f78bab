-- What a change of one process makes of the processes as they are seen.
use Rattle.std.proofs.Common.{◌≡◌, ◌∙◌, ℕ, ◌+◌, ◌<◌, ◌≤◌, ◌==◌, List, [], ◌∷◌, ◌++◌, length, filter, find, count_by, Some, All, ap, sym, subst, eq-eqb}
use Rattle.ob_model.specs.declared.state.Held.{Held}
use Rattle.ob_model.specs.Closing.{is_handle}
use Rattle.ob_handles.specs.Table.{without}
use Rattle.ob_devmap.specs.Maps.{Directories}
use Rattle.ob_processes.specs.Running.{Running, Entries, processes_of, handles_of, seen, IsRunning}
use Rattle.ob_processes.proofs.Entries.{at, is_of}
use Rattle.ob_processes.proofs.Changes.{put, stays, all_found, processes_written, handles_more, running_more, handles_fewer, running_fewer, no_fewer_than}
use Rattle.ob_processes.proofs.Seen.{handles_now, processes_now, all_handles, get_seen, size_seen, written_same}

module _ (maps : Directories) (es : Entries) (kept : ℕ) (is : IsRunning es kept) (now : Running) (same : seen maps es ≡ now) (key p : ℕ) (is_p : key ≡ p) (x : List Held) (found : at es key ≡ Some x) where
  -- what holds of all handles holds of those of the process
  pub all_of : (P : Held → Type 0) → All P now.handles → All P x
  all_of P all = all_found key kept es is x found P (all_handles maps es kept is now same P all)

  -- the process has so many handles, and a value that it doesn't use is used by none of them
  pub size_of : length x ≡ count_by (is_of p) now.handles
  size_of = size_seen maps es kept is now same key p is_p (Some x) found

  pub get_of : (value : ℕ) → find (λ h. h.value == value) x ≡ find (is_handle p value) now.handles
  get_of value = get_seen maps es kept is now same key p is_p (Some x) found value

  module _ (new : Entries) (w : List Held) (wrote : new ≡ put es key w) where
    -- ---- nothing changes

    module _ (unchanged : w ≡ x) where
      pub running_same : IsRunning new kept
      running_same = subst (λ n. IsRunning n kept) (sym (written_same es new key x w found wrote unchanged)) is

      pub seen_same : seen maps new ≡ now
      seen_same = ap (seen maps) (written_same es new key x w found wrote unchanged) ∙ same

    -- ---- a handle more

    module _ (h : Held) (last : w ≡ x ++ h ∷ []) (newest : All (λ k. k.order < h.order) now.handles) where
      before : All (λ k. k.order < h.order) (handles_of es)
      before = all_handles maps es kept is now same (λ k. k.order < h.order) newest

      pub seen_more : handles_of new ≡ now.handles ++ h ∷ []
      seen_more =
          handles_more key kept es is x found new w wrote h last before
          ∙ ap (λ hs. hs ++ h ∷ []) (handles_now maps es kept is now same)

      pub processes_more : processes_of maps new ≡ now.processes
      processes_more = processes_written key kept es is x found new w wrote maps ∙ processes_now maps es kept is now same

      pub kept_more : h.process ≡ p → IsRunning new (kept + 1)
      kept_more own =
          running_more key kept es is x found new w wrote h last before (eq-eqb h.process key (own ∙ sym is_p))

    -- ---- a handle less

    module _ (value : ℕ) (others : w ≡ without x value) where
      pub seen_fewer : handles_of new ≡ filter (stays p value) now.handles
      seen_fewer =
          handles_fewer key kept es is x found new w wrote value others
          ∙ ap (filter (stays key value)) (handles_now maps es kept is now same)
          ∙ ap (λ n. filter (stays n value) now.handles) is_p

      pub processes_fewer : processes_of maps new ≡ now.processes
      processes_fewer = processes_written key kept es is x found new w wrote maps ∙ processes_now maps es kept is now same

      module _ (n : ℕ) (fewer : length w + n ≡ length x) where
        pub kept_fewer : (left : ℕ) → left + n ≡ kept → IsRunning new left
        kept_fewer left so_many = running_fewer key kept es is x found new w wrote value others n fewer left so_many

        pub kept_enough : n ≤ kept
        kept_enough = no_fewer_than key kept es is x found new w wrote value others n fewer
