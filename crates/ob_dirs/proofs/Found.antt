-- Entries by rising stamps, cut where the stamps aren't below one any more: what is found there, and what stays
-- without it.
use Rattle.std.proofs.Common.{◌≡◌, ◌≢◌, ◌⊎◌, ◌∙◌, ℕ, zero, suc, ◌+◌, ◌-◌, ◌^◌, ◌<◌, ◌≤◌, true, false, cond, not, nat_lt, List, [], ◌∷◌, ◌++◌, length, take, drop, get_or, filter, find, slice_get, All, None, Some, refl, ap, sym, subst, arith, inl, inr, eq-eqb, lt-ltb, le-ltb, add-one}
use Rattle.std.proofs.Math.Seq.{drop-cons}
use Rattle.std.specs.List.Sorted.{IsPartitionedBy}
use Rattle.std.proofs.lemmas.Bool.{cases_lt, ltb-true, ne_eqb}
use Rattle.std.proofs.lemmas.List.{length-append, length-drop, take-append-drop, take_all, get_or_default}
use Rattle.std.proofs.lemmas.List.Concat.{flat_map-append}
use Rattle.std.proofs.lemmas.List.Elements.{All-nil, All-append, All-cons, All-head, All-same, All-tail, All-weaker, filter-append}
use Rattle.std.proofs.lemmas.List.Filters.{length-filter_both}
use Rattle.std.proofs.lemmas.List.Kept.{AllPairs-filter}
use Rattle.ob_model.proofs.Finds.{filter_all}
use Rattle.ob_dirs.specs.declared.entry.DirEntry.{DirEntry}
use Rattle.ob_dirs.specs.Page.{entries_behind}
use Rattle.ob_dirs.specs.Runs.{AreBelow, AreFilled, AreFrom, AreRuns, IsPlaceOf, Rises, before, entries_of, from_on, joined, last_is_below, run_at}
use Rattle.ob_dirs.proofs.Joined.{All-left, All-right, Run, joined-cut, joined-split, pairs-across, pairs-head, pairs-left, pairs-right, pairs-tail, run_at-read}
use Rattle.ob_dirs.proofs.Removed.{has_stamp, has_other}

abbrev pub Before : DirEntry → DirEntry → Type 0
Before a b = a.stamp < b.stamp

-- ---- the last of a run

pub last-read : (stamp : ℕ) (es : List DirEntry) (e : DirEntry) → Some e ≡ slice_get es (length es - 1) → nat_lt e.stamp stamp ≡ last_is_below stamp es
last-read stamp [] e is = cc
last-read stamp (x ∷ []) e is = let same : e ≡ x = cc in ap (λ (y : DirEntry). nat_lt y.stamp stamp) same
last-read stamp (x ∷ y ∷ es) e is =
    let one_less : suc (suc (length es)) - 1 ≡ suc (suc (length es) - 1) = omega arith in
    last-read stamp (y ∷ es) e (is ∙ ap (slice_get (x ∷ y ∷ es)) one_less)

module _ (stamp : ℕ) where
  pub last-from_all : (es : List DirEntry) → AreBelow stamp es → last_is_below stamp es ≡ true
  last-from_all [] each = refl
  last-from_all (e ∷ []) each = lt-ltb e.stamp stamp (All-head (λ x. x.stamp < stamp) e [] each)
  last-from_all (e ∷ f ∷ es) each = last-from_all (f ∷ es) (All-tail (λ x. x.stamp < stamp) e (f ∷ es) each)

  pub all-from_last : (es : List DirEntry) → Rises es → last_is_below stamp es ≡ true → AreBelow stamp es
  all-from_last [] rises last = All-nil (λ x. x.stamp < stamp)
  all-from_last (e ∷ []) rises last = All-cons (λ x. x.stamp < stamp) e [] (ltb-true e.stamp stamp last) (All-nil (λ x. x.stamp < stamp))
  all-from_last (e ∷ f ∷ es) rises last =
      let others = all-from_last (f ∷ es) (pairs-tail Before e (f ∷ es) rises) last in
      All-cons (λ x. x.stamp < stamp) e (f ∷ es)
      (omega (arith, All-head (Before e) f es (pairs-head Before e (f ∷ es) rises), All-head (λ x. x.stamp < stamp) f es others)) others

  -- where the last isn't below, not all are
  pub not_all : (es : List DirEntry) (at : ℕ) → at ≤ length es → AreBelow stamp (take at es) → last_is_below stamp es ≡ false → at < length es
  not_all es at within each last = go (cases_lt at (length es))
    where
      go : (at < length es) ⊎ (length es ≤ at) → at < length es
      go (inl less) = less
      go (inr all) =
          let is : last_is_below stamp es ≡ true = last-from_all es (subst (AreBelow stamp) (take_all at es all) each) in
          cc

  -- what stands before others that are below is below
  across_below : (xs ys : List DirEntry) → All (λ x. All (Before x) ys) xs → 0 < length ys → AreBelow stamp ys → AreBelow stamp xs
  across_below xs [] across some each = absurd (omega (arith, some))
  across_below xs (y ∷ ys) across some each =
      All-weaker (λ x. All (Before x) (y ∷ ys)) (λ x. x.stamp < stamp)
      (λ x behind. omega (arith, All-head (Before x) y ys behind, All-head (λ z. z.stamp < stamp) y ys each)) xs across

  -- and what stands behind one that isn't below isn't
  behind_from : (xs ys : List DirEntry) → Rises (xs ++ ys) → 0 < length xs → AreFrom stamp xs → AreFrom stamp ys
  behind_from [] ys rises some each = absurd (omega (arith, some))
  behind_from (x ∷ xs) ys rises some each =
      All-weaker (Before x) (λ y. stamp ≤ y.stamp) (λ y behind. omega (arith, behind, All-head (λ z. stamp ≤ z.stamp) x xs each)) ys
      (All-right (Before x) xs ys (pairs-head Before x (xs ++ ys) rises))

  -- ---- the search for a run

  holds_at : (P : DirEntry → Type 0) (runs : List Run) (i : ℕ) (d : Run) → i < length runs → All P (joined runs) → All P (get_or runs i d).items
  holds_at P [] i d below each = absurd (omega (arith, below))
  holds_at P (r ∷ runs) zero d below each = All-left P r.items (joined runs) each
  holds_at P (r ∷ runs) (suc i) d below each = holds_at P runs i d (omega (arith, below)) (All-right P r.items (joined runs) each)

  rises_at : (runs : List Run) (i : ℕ) (d : Run) → i < length runs → Rises (joined runs) → Rises (get_or runs i d).items
  rises_at [] i d below rises = absurd (omega (arith, below))
  rises_at (r ∷ runs) zero d below rises = pairs-left Before r.items (joined runs) rises
  rises_at (r ∷ runs) (suc i) d below rises = rises_at runs i d (omega (arith, below)) (pairs-right Before r.items (joined runs) rises)

  pub runs-parted : (runs : List Run) → Rises (joined runs) → AreFilled runs → IsPartitionedBy (λ run. last_is_below stamp run.items) runs
  runs-parted [] rises filled i j d low below is = absurd (omega (arith, below))
  runs-parted (r ∷ runs) rises filled zero zero d low below is = is
  runs-parted (r ∷ runs) rises filled zero (suc j) d low below is =
      let inside : j < length runs = omega (arith, below) in
      let run = get_or runs j d in
      let each : AreBelow stamp run.items = all-from_last run.items (rises_at runs j d inside (pairs-right Before r.items (joined runs) rises)) is in
      let across : All (λ x. All (Before x) run.items) r.items =
      All-weaker (λ x. All (Before x) (joined runs)) (λ x. All (Before x) run.items) (λ x. holds_at (Before x) runs j d inside) r.items
      (pairs-across Before r.items (joined runs) rises) in
      last-from_all r.items (across_below r.items run.items across (All-tail (λ x. 0 < length x.items) r runs filled j d inside) each)
  runs-parted (r ∷ runs) rises filled (suc i) zero d low below is = absurd (omega (arith, low))
  runs-parted (r ∷ runs) rises filled (suc i) (suc j) d low below is =
      runs-parted runs (pairs-right Before r.items (joined runs) rises) (All-tail (λ x. 0 < length x.items) r runs filled) i j d (omega (arith, low)) (omega (arith, below)) is

  all_joined : (runs : List Run) → Rises (joined runs) → All (λ run. last_is_below stamp run.items ≡ true) runs → AreBelow stamp (joined runs)
  all_joined [] rises each = All-nil (λ x. x.stamp < stamp)
  all_joined (r ∷ runs) rises each =
      All-append (λ x. x.stamp < stamp) r.items (joined runs)
      (all-from_last r.items (pairs-left Before r.items (joined runs) rises) (All-head (λ run. last_is_below stamp run.items ≡ true) r runs each))
      (all_joined runs (pairs-right Before r.items (joined runs) rises) (All-tail (λ run. last_is_below stamp run.items ≡ true) r runs each))

  pub first_runs-below : (runs : List Run) (i : ℕ) → Rises (joined runs) → All (λ run. last_is_below stamp run.items ≡ true) (take i runs) → AreBelow stamp (joined (take i runs))
  first_runs-below runs i rises each =
      let cut : joined runs ≡ joined (take i runs) ++ joined (drop i runs) =
      ap joined (sym (take-append-drop i runs)) ∙ flat_map-append entries_of (take i runs) (drop i runs) in
      all_joined (take i runs) (pairs-left Before (joined (take i runs)) (joined (drop i runs)) (subst Rises cut rises)) each

  -- ---- the search in a run

  pub entries-parted : (es : List DirEntry) → Rises es → IsPartitionedBy (λ e. nat_lt e.stamp stamp) es
  entries-parted es rises i j d low below is = go (cases_lt i j)
    where
      go : (i < j) ⊎ (j ≤ i) → nat_lt (get_or es i d).stamp stamp ≡ true
      go (inl less) = lt-ltb (get_or es i d).stamp stamp (omega (arith, rises i j d less below, ltb-true (get_or es j d).stamp stamp is))
      go (inr same) = let equal : i ≡ j = omega (arith, low, same) in rw equal is

  -- ---- the place

  pub run-rises : (runs : List Run) (i : ℕ) → i < length runs → Rises (joined runs) → Rises (run_at runs i)
  run-rises runs i below rises =
      pairs-left Before (run_at runs i) (joined (drop (i + 1) runs))
      (pairs-right Before (joined (take i runs)) (run_at runs i ++ joined (drop (i + 1) runs)) (subst Rises (joined-cut runs i below) rises))

  pub place-found : (runs : List Run) (i at : ℕ) (run : List DirEntry) → Rises (joined runs) → i < length runs → run_at runs i ≡ run
      → AreBelow stamp (joined (take i runs)) → last_is_below stamp (run_at runs i) ≡ false
      → at ≤ length run → AreBelow stamp (take at run) → AreFrom stamp (drop at run) → IsPlaceOf runs stamp i at
  place-found runs i at run rises below is first next within low from =
      let inside : at < length (run_at runs i) = subst (λ l. at < length l) (sym is) (not_all run at within low (subst (λ l. last_is_below stamp l ≡ false) is next)) in
      let from_here : AreFrom stamp (drop at (run_at runs i)) = subst (λ l. AreFrom stamp (drop at l)) (sym is) from in
      let some : 0 < length (drop at (run_at runs i)) = omega (arith, length-drop at (run_at runs i), inside) in
      record {
        here = record { run_in = below; at_in = inside };
        below = All-append (λ e. e.stamp < stamp) (joined (take i runs)) (take at (run_at runs i)) first (subst (λ l. AreBelow stamp (take at l)) (sym is) low);
        from =
            All-append (λ e. stamp ≤ e.stamp) (drop at (run_at runs i)) (joined (drop (i + 1) runs)) from_here
            (behind_from (drop at (run_at runs i)) (joined (drop (i + 1) runs))
            (pairs-right Before (before runs i at) (from_on runs i at) (subst Rises (joined-split runs i at below) rises)) some from_here);
      }

  -- ---- what is found, and what stays

  pub find-none : (es : List DirEntry) → All (λ e. has_stamp stamp e ≡ false) es → find (has_stamp stamp) es ≡ None
  find-none [] each = refl
  find-none (e ∷ es) each =
      ap (λ b. cond b (Some e) (find (has_stamp stamp) es)) (All-head (λ x. has_stamp stamp x ≡ false) e es each)
      ∙ find-none es (All-tail (λ x. has_stamp stamp x ≡ false) e es each)

  find-behind : (es fs : List DirEntry) → All (λ e. has_stamp stamp e ≡ false) es → find (has_stamp stamp) (es ++ fs) ≡ find (has_stamp stamp) fs
  find-behind [] fs each = refl
  find-behind (e ∷ es) fs each =
      ap (λ b. cond b (Some e) (find (has_stamp stamp) (es ++ fs))) (All-head (λ x. has_stamp stamp x ≡ false) e es each)
      ∙ find-behind es fs (All-tail (λ x. has_stamp stamp x ≡ false) e es each)

  pub others-stay : (es : List DirEntry) → All (λ e. has_stamp stamp e ≡ false) es → filter (has_other stamp) es ≡ es
  others-stay es each =
      filter_all (has_other stamp) es (All-weaker (λ e. has_stamp stamp e ≡ false) (λ e. has_other stamp e ≡ true) (λ e is. ap not is) es each)

  pub none-below : (es : List DirEntry) → AreBelow stamp es → All (λ e. has_stamp stamp e ≡ false) es
  none-below es each =
      All-weaker (λ e. e.stamp < stamp) (λ e. has_stamp stamp e ≡ false) (λ e low. ne_eqb e.stamp stamp (λ same. omega (arith, low, same))) es each

  none-above : (e : DirEntry) (es : List DirEntry) → stamp ≤ e.stamp → Rises (e ∷ es) → All (λ x. has_stamp stamp x ≡ false) es
  none-above e es from rises =
      All-weaker (Before e) (λ x. has_stamp stamp x ≡ false) (λ x behind. ne_eqb x.stamp stamp (λ same. omega (arith, from, behind, same))) es (pairs-head Before e es rises)

  -- where all are below nothing stands behind
  pub none_behind : (es : List DirEntry) → AreBelow stamp es → entries_behind es stamp ≡ []
  none_behind [] each = refl
  none_behind (x ∷ es) each =
      ap (λ b. cond b (x ∷ entries_behind es stamp) (entries_behind es stamp)) (le-ltb stamp x.stamp (omega (arith, All-head (λ y. y.stamp < stamp) x es each)))
      ∙ none_behind es (All-tail (λ y. y.stamp < stamp) x es each)

-- ---- entries that are cut in two

-- entries by rising stamps, cut before the first whose stamp isn't below one
pub record IsCut (stamp : ℕ) (all front : List DirEntry) (e : DirEntry) (back : List DirEntry) : Type 0 where
  pub is : all ≡ front ++ e ∷ back
  pub rises : Rises all
  pub below : AreBelow stamp front
  pub from : AreFrom stamp (e ∷ back)

module _ {stamp : ℕ} {all front : List DirEntry} {e : DirEntry} {back : List DirEntry} (cut : IsCut stamp all front e back) where
  later_rise : Rises (e ∷ back)
  later_rise = pairs-right Before front (e ∷ back) (subst Rises cut.is cut.rises)

  from_here : stamp ≤ e.stamp
  from_here = All-head (λ x. stamp ≤ x.stamp) e back cut.from

  behind_none : All (λ x. has_stamp stamp x ≡ false) back
  behind_none = none-above stamp e back from_here later_rise

  front_none : All (λ x. has_stamp stamp x ≡ false) front
  front_none = none-below stamp front cut.below

  pub found_here : e.stamp ≡ stamp → Some e ≡ find (has_stamp stamp) all
  found_here is = sym (
      ap (find (has_stamp stamp)) cut.is ∙ find-behind stamp front (e ∷ back) front_none
      ∙ ap (λ b. cond b (Some e) (find (has_stamp stamp) back)) (eq-eqb e.stamp stamp is))

  pub without_it : e.stamp ≡ stamp → front ++ back ≡ filter (has_other stamp) all
  without_it is = sym (
      ap (filter (has_other stamp)) cut.is ∙ filter-append (has_other stamp) front (e ∷ back)
      ∙ ap (λ l. l ++ filter (has_other stamp) (e ∷ back)) (others-stay stamp front front_none)
      ∙ ap (λ b. front ++ cond (not b) (e ∷ filter (has_other stamp) back) (filter (has_other stamp) back)) (eq-eqb e.stamp stamp is)
      ∙ ap (λ l. front ++ l) (others-stay stamp back behind_none))

  no_entry : e.stamp ≢ stamp → All (λ x. has_stamp stamp x ≡ false) all
  no_entry other =
      All-same (λ x. has_stamp stamp x ≡ false) all (front ++ e ∷ back) cut.is
      (All-append (λ x. has_stamp stamp x ≡ false) front (e ∷ back) front_none
      (All-cons (λ x. has_stamp stamp x ≡ false) e back (ne_eqb e.stamp stamp other) behind_none))

  pub not_found : e.stamp ≢ stamp → None ≡ find (has_stamp stamp) all
  not_found other = sym (find-none stamp all (no_entry other))

  pub all_stay : e.stamp ≢ stamp → all ≡ filter (has_other stamp) all
  all_stay other = sym (others-stay stamp all (no_entry other))

  behind_back : entries_behind back stamp ≡ back
  behind_back =
      filter_all (λ x. nat_lt stamp x.stamp) back
      (All-weaker (Before e) (λ x. nat_lt stamp x.stamp ≡ true) (λ x behind. lt-ltb stamp x.stamp (omega (arith, behind, from_here))) back
      (pairs-head Before e back later_rise))

  behind_all : entries_behind all stamp ≡ cond (nat_lt stamp e.stamp) (e ∷ back) back
  behind_all =
      ap (λ l. entries_behind l stamp) cut.is ∙ filter-append (λ x. nat_lt stamp x.stamp) front (e ∷ back)
      ∙ ap (λ l. l ++ entries_behind (e ∷ back) stamp) (none_behind stamp front cut.below)
      ∙ ap (λ l. cond (nat_lt stamp e.stamp) (e ∷ l) l) behind_back

  pub behind_it : e.stamp ≡ stamp → back ≡ entries_behind all stamp
  behind_it is = sym (behind_all ∙ ap (λ b. cond b (e ∷ back) back) (le-ltb stamp e.stamp (omega (arith, is))))

  pub from_it_on : e.stamp ≢ stamp → e ∷ back ≡ entries_behind all stamp
  from_it_on other = sym (behind_all ∙ ap (λ b. cond b (e ∷ back) back) (lt-ltb stamp e.stamp (omega (arith, other, from_here))))

-- ---- runs

-- the first entry from a place on
pub first-from_on : (runs : List Run) (i at : ℕ) (e : DirEntry) → at < length (run_at runs i) → e ≡ get_or (run_at runs i) at e → from_on runs i at ≡ e ∷ from_on runs i (at + 1)
first-from_on runs i at e inside is =
    ap (λ l. l ++ joined (drop (i + 1) runs)) (drop-cons (run_at runs i) at e inside)
    ∙ ap (λ x. (x ∷ drop (suc at) (run_at runs i)) ++ joined (drop (i + 1) runs)) (sym is)
    ∙ ap (λ n. e ∷ (drop n (run_at runs i) ++ joined (drop (i + 1) runs))) (sym (add-one at))

-- they are cut at the place that was found
pub cut-found : {stamp count : ℕ} {runs read : List Run} {i at : ℕ} (run : Run) (e : DirEntry) (all : List DirEntry) → AreRuns runs count → joined runs ≡ all → read ≡ runs
    → IsPlaceOf read stamp i at → run ≡ get_or runs i run → e ≡ get_or run.items at e → IsCut stamp all (before runs i at) e (from_on runs i (at + 1))
cut-found {stamp} {count} {runs} {read} {i} {at} run e all held view same found here is =
    let place : IsPlaceOf runs stamp i at = subst (λ l. IsPlaceOf l stamp i at) same found in
    let entry : e ≡ get_or (run_at runs i) at e = is ∙ ap (λ l. get_or l at e) (sym (run_at-read runs i run place.here.run_in here)) in
    let first : from_on runs i at ≡ e ∷ from_on runs i (at + 1) = first-from_on runs i at e place.here.at_in entry in
    record {
      is = sym view ∙ joined-split runs i at place.here.run_in ∙ ap (λ l. before runs i at ++ l) first;
      rises = subst Rises view held.rises;
      below = place.below;
      from = subst (AreFrom stamp) first place.from;
    }

-- where no place is found all are below
pub below-found : (stamp : ℕ) (runs read : List Run) (all : List DirEntry) → joined runs ≡ all → read ≡ runs → AreBelow stamp (joined read) → AreBelow stamp all
below-found stamp runs read all view same each = subst (AreBelow stamp) (ap joined same ∙ view) each

-- those behind a context are no more than all
pub few-behind : {count : ℕ} {runs : List Run} (all behind : List DirEntry) (context : ℕ) → AreRuns runs count → joined runs ≡ all → behind ≡ entries_behind all context → length behind < 2 ^ 64
few-behind {count} {runs} all behind context held view is =
    omega (arith, held.small, held.counted, ap length view, ap length is, length-filter_both (λ x. nat_lt context x.stamp) (λ x. not (nat_lt context x.stamp)) (λ x. refl) all)

-- what is lent from a place on
rest : {X : Type 0} (n : ℕ) (xs : List X) → take (length xs - n) (drop n xs) ≡ drop n xs
rest n xs = take_all (length xs - n) (drop n xs) (omega (arith, length-drop n xs))

pub lent : (runs read : List Run) (i n : ℕ) (run : Run) (items : List DirEntry) → i < length runs → run ≡ get_or runs i run → items ≡ run.items → read ≡ runs
    → take (length items - n) (drop n items) ++ joined (take (length read - (i + 1)) (drop (i + 1) read)) ≡ from_on runs i n
lent runs read i n run items inside here is same =
    ap (λ l. l ++ joined (take (length read - (i + 1)) (drop (i + 1) read))) (rest n items ∙ ap (drop n) (is ∙ sym (run_at-read runs i run inside here)))
    ∙ ap (λ l. drop n (run_at runs i) ++ joined l) (rest (i + 1) read ∙ ap (drop (i + 1)) same)

-- an entry is read twice
pub read_twice : (xs : List DirEntry) (at : ℕ) (d e : DirEntry) → at < length xs → d ≡ get_or xs at d → e ≡ get_or xs at e → d ≡ e
read_twice xs at d e inside first second = first ∙ get_or_default xs at d e inside ∙ sym second

-- what is left of runs when an entry goes
pub runs-left : {stamp count : ℕ} {runs left : List Run} {front : List DirEntry} {e : DirEntry} {back : List DirEntry} → AreRuns runs count → AreFilled left
    → IsCut stamp (joined runs) front e back → e.stamp ≡ stamp → joined left ≡ front ++ back → AreRuns left (count - 1)
runs-left {stamp} {count} {runs} {left} {front} {e} {back} held filled cut is others = record {
  rises = subst Rises (sym (others ∙ without_it cut is)) (AllPairs-filter Before (has_other stamp) (joined runs) held.rises);
  filled = filled;
  counted =
      omega (arith, held.counted, ap length cut.is, ap length others, length-append front (e ∷ back), length-append front back);
  small = omega (arith, held.small);
}

pub some-there : {stamp count : ℕ} {runs : List Run} {front : List DirEntry} {e : DirEntry} {back : List DirEntry} → AreRuns runs count → IsCut stamp (joined runs) front e back → 1 ≤ count
some-there {stamp} {count} {runs} {front} {e} {back} held cut = omega (arith, held.counted, ap length cut.is, length-append front (e ∷ back))
