-- Counts of the maps of directories: what a map more, another or one less makes of them, and what they tell.
use Rattle.std.proofs.Common.{◌≡◌, ◌∙◌, ℕ, ◌+◌, ◌-◌, ◌<◌, ◌≤◌, ◌==◌, ◌^◌, Bool, true, false, cond, IsTrue, [], ◌∷◌, length, count_by, Option, None, Some, option_map, All, refl, ap, sym, subst, arith, eqb-true, eq-eqb, ltb-true, lt-ltb, nat_lt}
use Rattle.std.proofs.lemmas.Bool.Decides.{nat_tests}
use Rattle.std.proofs.lemmas.List.Sums.{count_by-le-length, sum_by-cons}
use Rattle.std.proofs.lemmas.Map.Entries.{length-keys_of, length-values_of, sum_by-insert_entry, sum_by-remove_entry}
use Rattle.std.proofs.lemmas.Map.Views.{All-keys-insert_entry, All-map-remove_entry, length-le_from_below}
use Rattle.std.specs.BTreeMap.{is_at, insert_entry}
use Rattle.std.specs.Cmp.{nat_cmp_total}
use Rattle.std.specs.List.Sorted.{IsStrictlySortedBy}
use Rattle.std.specs.Map.{keys_of, values_of, remove_entry}
use Rattle.std.specs.Option.{unwrap_or}
use Rattle.std.specs.Ordering.{nat_cmp}
use Rattle.ob_handles.specs.Counts.{Numbers, count_of, one_if, CountsOneMore, CountsOneLess}
use Rattle.ob_devmap.specs.Maps.{Directories, map_in, IsMapped, AreMaps}
use Rattle.ob_model.proofs.Finds.{find_none}
use Rattle.ob_model.proofs.Ids.{Differ, Differ-from_rising, is_at-id, lookup-id}
use Rattle.ob_model.specs.State.{greatest_number}

-- so many maps are of a directory
abbrev count_in : Directories → ℕ → ℕ
count_in es directory = count_by (λ other. other == directory) (values_of es)

-- a map counts as one where it is of the directory
one_map : (value directory : ℕ) → cond (value == directory) 1 0 ≡ one_if value directory
one_map value directory = ap (λ t. cond t 1 0) (turned value directory)
  where
    turned : (a b : ℕ) → (a == b) ≡ (b == a)
    turned a b = grind (arith, nat_tests)

-- the maps of one directory, those of a process that had none or one
abbrev of_before : Option ℕ → ℕ → ℕ
of_before None directory = 0
of_before (Some value) directory = one_if value directory

before_is : (o : Option ℕ) (directory : ℕ) → unwrap_or (option_map (λ other. cond (other == directory) 1 0) o) 0 ≡ of_before o directory
before_is None directory = refl
before_is (Some value) directory = one_map value directory

-- ---- room for one more

pub room : (es : Directories) (numbers : Numbers) (directory : ℕ) → AreMaps es numbers → count_of numbers directory ≤ greatest_number
room es numbers directory are =
    let count : count_of numbers directory ≡ count_in es directory = are.counts directory in
    let few : length (keys_of es) ≤ 2 ^ 32 = length-le_from_below (2 ^ 32) (keys_of es) are.rising are.processes in
    omega (arith, count, few, count_by-le-length (λ other. other == directory) (values_of es), length-keys_of es, length-values_of es)

-- ---- a map is written, or goes

module _ (es : Directories) (numbers : Numbers) (are : AreMaps es numbers) (key : ℕ) (new : Directories) (rising : IsStrictlySortedBy nat_cmp (keys_of new)) (after : Numbers) where
  module _ (directory : ℕ) (small : key < 2 ^ 32) (wrote : new ≡ insert_entry nat_cmp es key directory) where
    counted : (other : ℕ) → count_in new other + of_before (map_in es key) other ≡ count_in es other + one_if directory other
    counted other =
        ap (λ n. count_in new other + n) (sym (before_is (map_in es key) other))
        ∙ ap (λ (n : Directories). count_in n other + unwrap_or (option_map (λ x. cond (x == other) 1 0) (map_in es key)) 0) wrote
        ∙ sum_by-insert_entry (λ x. cond (x == other) 1 0) nat_cmp_total es key directory are.rising
        ∙ ap (λ n. count_in es other + n) (one_map directory other)

    written : ((other : ℕ) → count_of after other ≡ count_in new other) → AreMaps new after
    written counts = record {
      rising = rising;
      processes = subst (λ (n : Directories). All (λ process. process < 2 ^ 32) (keys_of n)) (sym wrote)
          (All-keys-insert_entry nat_cmp key directory (λ process. process < 2 ^ 32) es are.processes small);
      counts = counts;
    }

    -- in place of none
    pub map_more : map_in es key ≡ None → CountsOneMore directory numbers after → AreMaps new after
    map_more none more = written (λ other.
        let sum : count_in new other + of_before (map_in es key) other ≡ count_in es other + one_if directory other = counted other in
        let before : of_before (map_in es key) other ≡ 0 = ap (λ o. of_before o other) none in
        let count : count_of numbers other ≡ count_in es other = are.counts other in
        let now : count_of after other ≡ count_of numbers other + one_if directory other = more other in
        omega (arith, sum, before, count, now))

    -- in place of another
    pub map_replaced : (value : ℕ) (between : Numbers) → map_in es key ≡ Some value → CountsOneMore directory numbers between → CountsOneLess value between after → AreMaps new after
    map_replaced value between some more less = written (λ other.
        let sum : count_in new other + of_before (map_in es key) other ≡ count_in es other + one_if directory other = counted other in
        let before : of_before (map_in es key) other ≡ one_if value other = ap (λ o. of_before o other) some in
        let count : count_of numbers other ≡ count_in es other = are.counts other in
        let midway : count_of between other ≡ count_of numbers other + one_if directory other = more other in
        let now : count_of after other ≡ count_of between other - one_if value other = less other in
        omega (arith, sum, before, count, midway, now))

  -- no longer
  pub map_fewer : (value : ℕ) → map_in es key ≡ Some value → new ≡ remove_entry (is_at (nat_cmp key)) es → CountsOneLess value numbers after → AreMaps new after
  map_fewer value some taken less = record {
    rising = rising;
    processes = subst (λ (n : Directories). All (λ process. process < 2 ^ 32) (keys_of n)) (sym taken)
        (All-map-remove_entry (is_at (nat_cmp key)) (λ e. e.0) (λ process. process < 2 ^ 32) es are.processes);
    counts = λ other.
        let sum : count_in new other + of_before (map_in es key) other ≡ count_in es other =
        ap (λ n. count_in new other + n) (sym (before_is (map_in es key) other))
        ∙ ap (λ (n : Directories). count_in n other + unwrap_or (option_map (λ x. cond (x == other) 1 0) (map_in es key)) 0) taken
        ∙ sum_by-remove_entry (λ x. cond (x == other) 1 0) (is_at (nat_cmp key)) es in
        let before : of_before (map_in es key) other ≡ one_if value other = ap (λ o. of_before o other) some in
        let count : count_of numbers other ≡ count_in es other = are.counts other in
        let now : count_of after other ≡ count_of numbers other - one_if value other = less other in
        omega (arith, sum, before, count, now);
  }

-- ---- what a count tells

one_entry : (e : ℕ × ℕ) (es : Directories) (directory : ℕ) → count_in (e ∷ es) directory ≡ cond (e.1 == directory) 1 0 + count_in es directory
one_entry e es directory = sum_by-cons (λ other. cond (other == directory) 1 0) e.1 (values_of es)

-- a process that has no entry has no map
no_map : (es : Directories) (process : ℕ) → All (λ x. (x.0 == process) ≡ false) es → map_in es process ≡ None
no_map es process none = lookup-id process es ∙ ap (option_map (λ e. e.1)) (find_none (λ e. e.0 == process) es none)

mapped_where_counted : (es : Directories) (directory : ℕ) → Differ es → 0 < count_in es directory → IsMapped es directory
mapped_where_counted [] directory differ some = absurd (omega (arith, some))
mapped_where_counted (e ∷ es) directory differ some = go (e.1 == directory) refl (subst (λ n. 0 < n) (one_entry e es directory) some) (mapped_where_counted es directory differ.1)
  where
    behind : (process : ℕ) → map_in es process ≡ Some directory → (t : Bool) → (e.0 == process) ≡ t → cond t (Some e.1) (map_in es process) ≡ Some directory
    behind process found true same =
        let none : map_in es process ≡ None = ap (map_in es) (sym (eqb-true e.0 process same)) ∙ no_map es e.0 differ.0 in
        cc
    behind process found false other = found

    go : (t : Bool) → (e.1 == directory) ≡ t → 0 < cond t 1 0 + count_in es directory → (0 < count_in es directory → IsMapped es directory) → IsMapped (e ∷ es) directory
    go true same some more =
        (e.0, ap (λ t. cond t (Some e.1) (map_in es e.0)) (is_at-id e.0 e.0 ∙ eq-eqb e.0 e.0 refl) ∙ ap Some (eqb-true e.1 directory same))
    go false other some more =
        let rest = more (omega (arith, some)) in
        (rest.0, ap (λ t. cond t (Some e.1) (map_in es rest.0)) (is_at-id rest.0 e.0) ∙ behind rest.0 rest.1 (e.0 == rest.0) refl)

counted_where_mapped : (es : Directories) (directory process : ℕ) → map_in es process ≡ Some directory → 0 < count_in es directory
counted_where_mapped [] directory process found = cc
counted_where_mapped (e ∷ es) directory process found = subst (λ n. 0 < n) (sym (one_entry e es directory)) (go (is_at (nat_cmp process) e.0) found (counted_where_mapped es directory process))
  where
    go : (t : Bool) → cond t (Some e.1) (map_in es process) ≡ Some directory → (map_in es process ≡ Some directory → 0 < count_in es directory) → 0 < cond (e.1 == directory) 1 0 + count_in es directory
    go true here more =
        let it : e.1 ≡ directory = cc in
        let one : ◌≡◌ {A = ℕ} (cond (e.1 == directory) 1 0) 1 = ap (λ t. cond t 1 0) (eq-eqb e.1 directory it) in
        omega (arith, one)
    go false there more = let some : 0 < count_in es directory = more there in omega (arith, some)

module _ (es : Directories) (numbers : Numbers) (are : AreMaps es numbers) (directory : ℕ) (count : ℕ) (is : count ≡ count_of numbers directory) where
  pub counted_tells : IsTrue (nat_lt 0 count) → IsMapped es directory
  counted_tells some =
      let count_is : count_of numbers directory ≡ count_in es directory = are.counts directory in
      mapped_where_counted es directory (Differ-from_rising es are.rising) (let more : 0 < count = ltb-true 0 count some in omega (arith, more, is, count_is))

  pub mapped_counts : IsMapped es directory → IsTrue (nat_lt 0 count)
  mapped_counts mapped =
      let count_is : count_of numbers directory ≡ count_in es directory = are.counts directory in
      lt-ltb 0 count (let more : 0 < count_in es directory = counted_where_mapped es directory mapped.0 mapped.1 in omega (arith, more, is, count_is))
