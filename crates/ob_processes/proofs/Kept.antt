-- The counts of all handles, where a process or a handle comes or goes.
use Rattle.std.proofs.Common.{◌≡◌, ◌∙◌, ℕ, ◌+◌, ◌-◌, ◌<◌, ◌≤◌, ◌==◌, ◌&&◌, nat_lt, not, List, [], ◌∷◌, ◌++◌, length, filter, find, count_by, Option, None, Some, All, refl, ap, sym, subst}
use Rattle.std.proofs.lemmas.List.Sums.{length-filter}
use Rattle.std.specs.BTreeMap.{is_at, insert_entry}
use Rattle.std.specs.List.{list_any}
use Rattle.std.specs.List.Sorted.{IsStrictlySortedBy}
use Rattle.std.specs.Map.{keys_of, remove_entry}
use Rattle.std.specs.Ordering.{nat_cmp}
use Rattle.ob_model.specs.declared.state.Held.{Held}
use Rattle.ob_model.specs.Closing.{is_handle}
use Rattle.ob_model.proofs.Ids.{Differ-from_rising}
use Rattle.ob_handles.proofs.Lists.{new_handle_is_taken_back}
use Rattle.ob_handles.specs.Table.{IsUnused, without}
use Rattle.ob_handles.specs.Counts.{Numbers, count_of, CountsOneMore, CountsOneLess}
use Rattle.ob_devmap.specs.Maps.{Directories, MapChanges}
use Rattle.ob_processes.specs.Counts.{Counts, AreKept}
use Rattle.ob_processes.specs.Running.{Running, Entries, handles_of, processes_of, seen}
use Rattle.ob_processes.proofs.Entries.{at, handles_in, is_of, filter_both, handles_at}
use Rattle.ob_processes.proofs.Counting.{counts_more, counts_fewer, counts_parted, counts_room, holders, taken_none}
use Rattle.ob_processes.proofs.Changes.{put, stays, handles_more, handles_fewer, begun, running_begun, handles_begun, others, many_ended, running_ended, processes_ended, handles_ended}
use Rattle.ob_processes.proofs.Mapped.{mapped_put, mapped_begun, mapped_ended}
use Rattle.ob_processes.proofs.Seen.{all_handles, in_found, handles_now, processes_now, written_same}
use Rattle.ob_processes.proofs.Written.{kept_more, kept_fewer}

-- what was granted and taken back leaves the process as it was
pub own_back : (x more w : List Held) (h : Held) → IsUnused x h.value → more ≡ x ++ h ∷ []
    → w ≡ without more h.value → w ≡ x
own_back x more w h unused last taken = taken ∙ ap (λ hs. without hs h.value) last ∙ new_handle_is_taken_back x h unused

module _ (maps : Directories) (es : Entries) (kept : ℕ) (numbers : Numbers) (are : AreKept maps es kept numbers) (now : Running) (same : seen maps es ≡ now) where
  -- there is room for one more of an object
  pub room : (order object : ℕ) → All (λ h. h.order < order) now.handles → count_of numbers object ≤ order
  room order object newest = counts_room (handles_of es) numbers order object are.counts are.running.rising (all_handles maps es kept are.running now same (λ h. h.order < order) newest)

  pub count_seen : (object : ℕ) → count_of numbers object ≡ count_by (λ h. h.object == object) now.handles
  count_seen object = are.counts object ∙ ap (count_by (λ h. h.object == object)) (handles_now maps es kept are.running now same)

  module _ (key p : ℕ) (is_p : key ≡ p) where
    pub count_in_seen : (o : Option (List Held)) → at es key ≡ o → (object : ℕ)
        → count_by (λ h. h.object == object) (handles_in o) ≡ count_by (λ h. (h.process == p) && (h.object == object)) now.handles
    count_in_seen o found object =
        sym (length-filter (λ h. h.object == object) (handles_in o))
        ∙ ap (λ hs. length (filter (λ h. h.object == object) hs)) (sym (in_found maps es kept are.running now same key p is_p o found))
        ∙ ap length (sym (filter_both (is_of p) (λ h. h.object == object) now.handles))
        ∙ length-filter (λ h. (h.process == p) && (h.object == object)) now.handles

    module _ (x : List Held) (found : at es key ≡ Some x) (new : Entries) (w : List Held) (wrote : new ≡ put es key w) where
      pub counted_same : (after : Numbers) → w ≡ x → after ≡ numbers → AreKept maps new kept after
      counted_same after unchanged equal =
          subst (AreKept maps new kept) (sym equal) (subst (λ n. AreKept maps n kept numbers) (sym (written_same es new key x w found wrote unchanged)) are)

      pub counted_more : (h : Held) → w ≡ x ++ h ∷ [] → All (λ k. k.order < h.order) now.handles → h.process ≡ p
          → (after : Numbers) → CountsOneMore h.object numbers after → AreKept maps new (kept + 1) after
      counted_more h last newest own after more = record {
        running = kept_more maps es kept are.running now same key p is_p x found new w wrote h last newest own;
        mapped = mapped_put maps key es new w wrote are.mapped;
        counts = subst (Counts after) (sym all) (counts_more (handles_of es) numbers after h are.counts more);
      }
        where
          all : handles_of new ≡ handles_of es ++ h ∷ []
          all = handles_more key kept es are.running x found new w wrote h last (all_handles maps es kept are.running now same (λ k. k.order < h.order) newest)

      module _ (value : ℕ) (others : w ≡ without x value) where
        all_fewer : handles_of new ≡ filter (stays key value) (handles_of es)
        all_fewer = handles_fewer key kept es are.running x found new w wrote value others

        -- no handle has the value
        pub counted_none : find (λ k. k.value == value) x ≡ None → AreKept maps new kept numbers
        counted_none none = counted_same numbers (others ∙ taken_none x value none) refl

        pub counted_fewer : (h : Held) → filter (λ k. k.value == value) x ≡ h ∷ [] → length w + 1 ≡ length x
            → (left : ℕ) → left + 1 ≡ kept → (after : Numbers) → CountsOneLess h.object numbers after → AreKept maps new left after
        counted_fewer h one fewer left so_many after less = record {
          running = kept_fewer maps es kept are.running now same key p is_p x found new w wrote value others 1 fewer left so_many;
          mapped = mapped_put maps key es new w wrote are.mapped;
          counts = subst (Counts after) (sym all_fewer) (counts_fewer (is_handle key value) (handles_of es) numbers after h are.counts less of_all);
        }
          where
            of_all : filter (is_handle key value) (handles_of es) ≡ h ∷ []
            of_all =
                filter_both (is_of key) (λ k. k.value == value) (handles_of es)
                ∙ ap (filter (λ k. k.value == value)) (handles_at key es (Differ-from_rising es are.running.numbers) are.running.tables ∙ ap handles_in found)
                ∙ one

    -- a process ends
    module _ (new : Entries) (taken : new ≡ remove_entry (is_at (nat_cmp key)) es) where
      pub processes_left : (left : Directories) → MapChanges p None maps left → processes_of left new ≡ filter (λ x. not (x.number == p)) now.processes
      processes_left left cleared =
          processes_ended key kept es are.running new taken maps left (subst (λ n. MapChanges n None maps left) (sym is_p) cleared)
          ∙ ap (filter (λ x. not (x.number == key))) (processes_now maps es kept are.running now same)
          ∙ ap (λ n. filter (λ x. not (x.number == n)) now.processes) is_p

      pub handles_left : handles_of new ≡ filter (λ h. not (h.process == p)) now.handles
      handles_left =
          handles_ended key kept es are.running new taken
          ∙ ap (filter (λ h. not (h.process == key))) (handles_now maps es kept are.running now same)
          ∙ ap (λ n. filter (λ h. not (h.process == n)) now.handles) is_p

  module _ (key : ℕ) (new : Entries) where
    pub counted_begun : All (λ e. e.0 < key) es → new ≡ insert_entry nat_cmp es key [] → IsStrictlySortedBy nat_cmp (keys_of new) → AreKept maps new kept numbers
    counted_begun newest put_in rising = record {
      running = running_begun key kept es are.running new newest put_in rising;
      mapped = mapped_begun maps key es new (begun key kept es are.running new newest put_in) are.mapped;
      counts = subst (Counts numbers) (sym (handles_begun key kept es are.running new newest put_in)) are.counts;
    }

    module _ (x : List Held) (found : handles_in (at es key) ≡ x) (taken : new ≡ remove_entry (is_at (nat_cmp key)) es) where
      pub enough_ended : length x ≤ kept
      enough_ended = many_ended key kept es are.running new taken x found

      pub counted_ended : (less : ℕ) → less + length x ≡ kept → IsStrictlySortedBy nat_cmp (keys_of new) → (left : Directories) → MapChanges key None maps left
          → (after : Numbers) → ((object : ℕ) → count_of after object ≡ count_of numbers object - count_by (λ h. h.object == object) x) → AreKept left new less after
      counted_ended less so_many rising left cleared after lowered = record {
        running = running_ended key kept es are.running new taken x found less so_many rising;
        mapped = mapped_ended maps left key es new (others key kept es are.running new taken) cleared are.mapped;
        counts = λ object.
            lowered object ∙ ap (λ n. n - count_by (λ h. h.object == object) x) (are.counts object)
            ∙ counts_parted (is_of key) (handles_of es) x object (handles_at key es (Differ-from_rising es are.running.numbers) are.running.tables ∙ found)
            ∙ ap (count_by (λ h. h.object == object)) (sym (handles_ended key kept es are.running new taken));
      }

-- where more handles lead to an object than those of a process, another process has one
pub other_holder : (p object inside all : ℕ) (handles : List Held) → inside ≡ count_by (λ h. (h.process == p) && (h.object == object)) handles
    → all ≡ count_by (λ h. h.object == object) handles → nat_lt inside all ≡ list_any (λ h. (h.object == object) && not (h.process == p)) handles
other_holder p object inside all handles in_one in_all =
    ap (λ n. nat_lt n all) (in_one ∙ sym (length-filter (λ h. (h.process == p) && (h.object == object)) handles))
    ∙ ap (nat_lt (length (filter (λ h. (h.process == p) && (h.object == object)) handles))) (in_all ∙ sym (length-filter (λ h. h.object == object) handles))
    ∙ holders (is_of p) (λ h. h.object == object) handles
