-- What the calls of the map give, of the processes as they are seen.
use Rattle.std.proofs.Common.{◌≡◌, ◌∙◌, ℕ, ◌<◌, ◌≤◌, ◌==◌, ◌&&◌, ltb, Bool, true, false, not, cond, List, [], ◌∷◌, length, filter, find, map, count_by, get_or, Option, None, Some, option_map, All, refl, ap, sym, subst, arith}
use Rattle.std.proofs.lemmas.Bool.{false≢true, ne_eqb}
use Rattle.std.proofs.lemmas.List.Elements.{All-nil, All-cons, All-head, All-tail, All-weaker}
use Rattle.std.proofs.lemmas.List.Sums.{length-filter}
use Rattle.std.proofs.lemmas.Map.Steps.{set_value_same}
use Rattle.std.specs.BTreeMap.{is_at}
use Rattle.std.proofs.lemmas.List.Kept.{AllPairs-cons}
use Rattle.std.proofs.lemmas.Bool.Decides.{nat_tests}
use Rattle.std.proofs.lemmas.Map.Keys.{sorted_head, sorted_tail}
use Rattle.std.specs.BTreeMap.Range.{entries_between}
use Rattle.std.specs.declared.cmp.Ordering.TheVariants.{Less}
use Rattle.std.specs.declared.ops.Bound.TheVariants.{Excluded, Unbounded}
use Rattle.std.specs.List.{slice_get, AllByRecursion, AllPairs}
use Rattle.std.specs.List.Sorted.{IsStrictlySortedBy}
use Rattle.std.specs.Map.{keys_of}
use Rattle.std.specs.Option.{is_some, option_and_then}
use Rattle.std.specs.Ordering.{nat_cmp}
use Rattle.ob_model.specs.declared.state.Held.{Held}
use Rattle.ob_model.specs.declared.state.Process.{Process}
use Rattle.ob_model.specs.Closing.{is_handle}
use Rattle.ob_model.proofs.Finds.{filter_all, find_none}
use Rattle.ob_model.proofs.Ids.{Differ-from_rising, lookup-id}
use Rattle.ob_handles.proofs.Tables.{find_agrees, first_above}
use Rattle.ob_devmap.specs.Maps.{Directories, map_in}
use Rattle.ob_processes.specs.Running.{Running, Entries, process_of_entry, processes_of, OnlyLiveHaveMaps, handles_of, seen, IsRunning}
use Rattle.ob_processes.proofs.ByOrder.{fewer_than_orders}
use Rattle.ob_processes.proofs.Entries.{at, handles_in, is_of, named, find_first, find_both, handles_at, process_at}
use Rattle.ob_processes.proofs.Changes.{put, stays}

map_some : (maps : Directories) (p : ℕ) (o : Option (List Held)) → is_some (option_map (named maps p) o) ≡ is_some o
map_some maps p None = refl
map_some maps p (Some x) = refl

-- where a test keeps nothing, nothing passes
pub none_passes : {X : Type 0} (test : X → Bool) (xs : List X) → filter test xs ≡ [] → All (λ x. test x ≡ false) xs
none_passes test [] none = All-nil (λ x. test x ≡ false)
none_passes {X} test (x ∷ xs) none = go (test x) refl none (none_passes test xs)
  where
    go : (t : Bool) → test x ≡ t → cond t (x ∷ filter test xs) (filter test xs) ≡ [] → (filter test xs ≡ [] → All (λ y. test y ≡ false) xs) → All (λ y. test y ≡ false) (x ∷ xs)
    go true passes some more = cc
    go false fails none more = All-cons (λ y. test y ≡ false) x xs fails (more none)

empty_from_first : (hs : List Held) → slice_get hs 0 ≡ None → hs ≡ []
empty_from_first [] none = refl
empty_from_first (h ∷ hs) none = cc

all_before : {X Y : Type 0} (f : X → Y) (P : Y → Type 0) (xs : List X) → All P (map f xs) → All (λ x. P (f x)) xs
all_before f P [] all = All-nil (λ x. P (f x))
all_before f P (x ∷ xs) all = All-cons (λ y. P (f y)) x xs (All-head P (f x) (map f xs) all) (all_before f P xs (All-tail P (f x) (map f xs) all))

module _ (maps : Directories) (es : Entries) (kept : ℕ) (is : IsRunning es kept) (now : Running) (same : seen maps es ≡ now) where
  pub handles_now : handles_of es ≡ now.handles
  handles_now = ap (λ r. r.handles) same

  pub processes_now : processes_of maps es ≡ now.processes
  processes_now = ap (λ r. r.processes) same

  pub all_handles : (P : Held → Type 0) → All P now.handles → All P (handles_of es)
  all_handles P all = subst (All P) (sym handles_now) all

  -- there is a number for one handle more
  pub few : (order : ℕ) → All (λ h. h.order < order) now.handles → kept ≤ order
  few order newest =
      let many : kept ≡ length (handles_of es) = is.total in
      omega (arith, many, fewer_than_orders (handles_of es) 0 order is.rising (λ k d below. omega arith) (all_handles (λ h. h.order < order) newest) (omega arith))

  module _ (key p : ℕ) (is_p : key ≡ p) where
    -- the handles of one process
    of_now : filter (is_of p) now.handles ≡ handles_in (at es key)
    of_now =
        ap (filter (is_of p)) (sym handles_now) ∙ ap (λ n. filter (is_of n) (handles_of es)) (sym is_p)
        ∙ handles_at key es (Differ-from_rising es is.numbers) is.tables

    -- a process is above all, where its number is
    pub newest_key : All (λ x. x.number < p) now.processes → All (λ e. e.0 < key) es
    newest_key newest = all_before (λ e. process_of_entry maps e) (λ (x : Process). x.number < key) es
        (subst (All (λ (x : Process). x.number < key)) (sym processes_now) (subst (λ n. All (λ (x : Process). x.number < n) now.processes) (sym is_p) newest))

    absent : All (λ x. x.number < p) now.processes → at es key ≡ None
    absent newest =
        lookup-id key es
        ∙ ap (option_map (λ e. e.1)) (find_none (λ e. e.0 == key) es
        (All-weaker (λ e. e.0 < key) (λ e. (e.0 == key) ≡ false) (λ e less. ne_eqb e.0 key (λ same. omega (arith, less, same))) es (newest_key newest)))

    process_now : find (λ x. x.number == p) now.processes ≡ option_map (named maps p) (at es key)
    process_now = ap (find (λ x. x.number == p)) (sym processes_now) ∙ process_at maps p es ∙ ap (λ n. option_map (named maps p) (at es n)) (sym is_p)

    pub empty_key : find (is_of p) now.handles ≡ None → handles_in (at es key) ≡ []
    empty_key none = empty_from_first (handles_in (at es key)) (ap (λ hs. slice_get hs 0) (sym of_now) ∙ sym (find_first (is_of p) now.handles) ∙ none)

    module _ (o : Option (List Held)) (found : at es key ≡ o) where
      pub in_found : filter (is_of p) now.handles ≡ handles_in o
      in_found = of_now ∙ ap handles_in found

      pub first_seen : (test : Held → Bool) → find test (handles_in o) ≡ find (λ h. is_of p h && test h) now.handles
      first_seen test = sym (find_both (is_of p) test now.handles ∙ ap (find test) in_found)

      pub get_seen : (value : ℕ) → find (λ h. h.value == value) (handles_in o) ≡ find (is_handle p value) now.handles
      get_seen value = first_seen (λ h. h.value == value)

      pub oldest_seen : slice_get (handles_in o) 0 ≡ find (is_of p) now.handles
      oldest_seen = sym (find_first (is_of p) now.handles ∙ ap (λ hs. slice_get hs 0) in_found)

      pub size_seen : length (handles_in o) ≡ count_by (is_of p) now.handles
      size_seen = ap length (sym in_found) ∙ length-filter (is_of p) now.handles

      pub live_seen : is_some o ≡ is_some (find (λ x. x.number == p) now.processes)
      live_seen = sym (ap is_some process_now ∙ map_some maps p (at es key) ∙ ap is_some found)

    -- the first entry of the range above the number has that of the next process
    pub next_seen : (above : Entries) → above ≡ entries_between nat_cmp (Excluded key) Unbounded es
        → option_map (λ e. e.0) (slice_get above 0) ≡ option_map (λ x. x.number) (find (λ x. ltb p x.number) now.processes)
    next_seen above is_above =
        ap (λ xs. option_map (λ (e : ℕ × List Held). e.0) (slice_get xs 0)) is_above
        ∙ ap (option_map (λ (e : ℕ × List Held). e.0)) (first_above key es)
        ∙ number_of (find (λ e. ltb key e.0) es)
        ∙ ap (option_map (λ (x : Process). x.number))
        (sym (find_agrees (process_of_entry maps) (λ x. ltb key x.number) (λ e. ltb key e.0) es (λ k d below. refl))
        ∙ ap (find (λ (x : Process). ltb key x.number)) processes_now ∙ ap (λ n. find (λ (x : Process). ltb n x.number) now.processes) is_p)
      where
        number_of : (o : Option (ℕ × List Held)) → option_map (λ e. e.0) o ≡ option_map (λ x. x.number) (option_map (process_of_entry maps) o)
        number_of None = refl
        number_of (Some e) = refl

    -- the map under the number is that of the process, since no other has one
    pub map_seen : OnlyLiveHaveMaps maps es → map_in maps p ≡ option_and_then (λ x. x.map) (find (λ x. x.number == p) now.processes)
    map_seen only = go (at es key) refl ∙ sym (ap (option_and_then (λ (x : Process). x.map)) process_now)
      where
        go : (o : Option (List Held)) → at es key ≡ o → map_in maps p ≡ option_and_then (λ x. x.map) (option_map (named maps p) o)
        go None none = ap (map_in maps) (sym is_p) ∙ only key none
        go (Some x) found = refl

    -- a process above all has no map, and no handle
    pub none_mapped : OnlyLiveHaveMaps maps es → All (λ x. x.number < p) now.processes → map_in maps key ≡ None
    none_mapped only newest = only key (absent newest)

    pub none_held : All (λ x. x.number < p) now.processes → find (is_of p) now.handles ≡ None
    none_held newest = find_first (is_of p) now.handles ∙ ap (λ hs. slice_get hs 0) (in_found None (absent newest))

    pub not_live : at es key ≡ None → is_some (find (λ x. x.number == p) now.processes) ≡ true → ⊥
    not_live none live = false≢true (live_seen None none ∙ live)

    -- where a process isn't live no handle of it is there to be taken
    pub nothing_taken : (value : ℕ) → at es key ≡ None → handles_of es ≡ filter (stays p value) now.handles
    nothing_taken value none =
        handles_now ∙ sym (filter_all (stays p value) now.handles
        (λ k d below. ap (λ t. not (t && (get_or now.handles k d).value == value)) (none_passes (is_of p) now.handles (in_found None none) k d below)))

-- what was written as it was
pub written_same : (es new : Entries) (p : ℕ) (x w : List Held) → at es p ≡ Some x → new ≡ put es p w → w ≡ x → new ≡ es
written_same es new p x w found wrote unchanged = wrote ∙ ap (put es p) unchanged ∙ set_value_same (is_at (nat_cmp p)) es x found

-- the numbers of processes rise, as those of their entries
greater_behind : (maps : Directories) (number : ℕ) (es : Entries) → AllByRecursion (λ k. nat_cmp number k ≡ Less) (keys_of es) → All (λ x. number < x.number) (processes_of maps es)
greater_behind maps number [] behind = All-nil (λ x. number < x.number)
greater_behind maps number (e ∷ es) behind =
    All-cons (λ x. number < x.number) (process_of_entry maps e) (processes_of maps es) (less e.0 behind.0) (greater_behind maps number es behind.1)
  where
    less : (k : ℕ) → nat_cmp number k ≡ Less → number < k
    less k e = grind (arith, nat_tests)

pub numbers_rise : (maps : Directories) (es : Entries) → IsStrictlySortedBy nat_cmp (keys_of es) → AllPairs (λ a b. a.number < b.number) (processes_of maps es)
numbers_rise maps [] sorted = λ i j d less within. absurd (omega (arith, within))
numbers_rise maps (e ∷ es) sorted =
    AllPairs-cons (λ a b. a.number < b.number) (process_of_entry maps e) (processes_of maps es)
    (greater_behind maps e.0 es (sorted_head nat_cmp e.0 (keys_of es) sorted)) (numbers_rise maps es (sorted_tail nat_cmp e.0 (keys_of es) sorted))
