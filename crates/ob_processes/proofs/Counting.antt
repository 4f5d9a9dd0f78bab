-- Counts of the objects of handles: what a handle more or less makes of them.
use Rattle.std.proofs.Common.{◌≡◌, ◌≢◌, ◌∙◌, ℕ, suc, ◌+◌, ◌-◌, ◌<◌, ◌≤◌, ◌==◌, ◌&&◌, ◌||◌, nat_lt, Bool, true, false, not, cond, if◌then◌else◌, List, [], ◌∷◌, ◌++◌, length, get_or, filter, find, count_by, Option, None, Some, All, refl, ap, sym, subst, arith, eqb-true}
use Rattle.std.proofs.lemmas.Bool.Decides.{nat_tests}
use Rattle.std.proofs.lemmas.List.{length-append}
use Rattle.std.proofs.lemmas.List.Elements.{filter-append}
use Rattle.std.proofs.lemmas.List.Sums.{length-filter, count_by-le-length}
use Rattle.std.proofs.lemmas.List.Filters.{sum_by-filter_both}
use Rattle.std.specs.List.{AllPairs, list_any}
use Rattle.std.specs.Option.{is_some}
use Rattle.ob_handles.specs.Counts.{Numbers, count_of, one_if, CountsOneMore, CountsOneLess}
use Rattle.ob_model.specs.declared.state.Held.{Held}
use Rattle.ob_model.proofs.Finds.{filter_none}
use Rattle.ob_handles.proofs.Lists.{new_handle_is_taken_back}
use Rattle.ob_handles.specs.Table.{IsUnused, without}
use Rattle.ob_processes.specs.ByOrder.{OrdersRise}
use Rattle.ob_processes.specs.Counts.{Counts, IsCounted}
use Rattle.ob_processes.proofs.ByOrder.{fewer_than_orders}
use Rattle.ob_processes.proofs.Tables.{pushed_table, taken_table, taken_length}

-- a handle to this object
abbrev leads_to : ℕ → Held → Bool
leads_to object h = h.object == object

one_count : (object : ℕ) (h : Held) → count_by (leads_to object) (h ∷ []) ≡ one_if h.object object
one_count object h = sym (length-filter (leads_to object) (h ∷ [])) ∙ go (h.object == object) (object == h.object) (turned h.object object)
  where
    turned : (a b : ℕ) → (a == b) ≡ (b == a)
    turned a b = grind (arith, nat_tests)

    go : (t u : Bool) → t ≡ u → length (cond t (h ∷ []) []) ≡ (if u then 1 else 0)
    go true true e = refl
    go true false e = cc
    go false true e = cc
    go false false e = refl

count-append : (test : Held → Bool) (xs ys : List Held) → count_by test (xs ++ ys) ≡ count_by test xs + count_by test ys
count-append test xs ys =
    let whole : length (filter test (xs ++ ys)) ≡ count_by test (xs ++ ys) = length-filter test (xs ++ ys) in
    let left : length (filter test xs) ≡ count_by test xs = length-filter test xs in
    let right : length (filter test ys) ≡ count_by test ys = length-filter test ys in
    let both : length (filter test (xs ++ ys)) ≡ length (filter test xs ++ filter test ys) = ap length (filter-append test xs ys) in
    omega (arith, whole, left, right, both, length-append (filter test xs) (filter test ys))

-- ---- a handle more

pub counts_more : (handles : List Held) (old new : Numbers) (h : Held) → Counts old handles → CountsOneMore h.object old new → Counts new (handles ++ h ∷ [])
counts_more handles old new h are more = λ object.
    let before : count_of old object ≡ count_by (leads_to object) handles = are object in
    let after : count_of new object ≡ count_of old object + one_if h.object object = more object in
    let both : count_by (leads_to object) (handles ++ h ∷ []) ≡ count_by (leads_to object) handles + count_by (leads_to object) (h ∷ []) =
    count-append (leads_to object) handles (h ∷ []) in
    after ∙ ap (λ n. n + one_if h.object object) before ∙ ap (λ n. count_by (leads_to object) handles + n) (sym (one_count object h)) ∙ sym both

-- there is room for one more
pub counts_room : (handles : List Held) (numbers : Numbers) (order object : ℕ) → Counts numbers handles → OrdersRise handles → All (λ h. h.order < order) handles
    → count_of numbers object ≤ order
counts_room handles numbers order object are rising newest =
    let count : count_of numbers object ≡ count_by (leads_to object) handles = are object in
    let many : 0 + length handles ≤ order = fewer_than_orders handles 0 order rising (λ k d below. omega arith) newest (omega arith) in
    omega (arith, count, many, count_by-le-length (leads_to object) handles)

-- ---- a handle less

-- where one handle passes a test, the counts of those that don't pass are one less
pub counts_fewer : (test : Held → Bool) (handles : List Held) (old new : Numbers) (h : Held) → Counts old handles → CountsOneLess h.object old new
    → filter test handles ≡ h ∷ [] → Counts new (filter (λ k. not (test k)) handles)
counts_fewer test handles old new h are less one = λ object.
    let before : count_of old object ≡ count_by (leads_to object) handles = are object in
    let after : count_of new object ≡ count_of old object - one_if h.object object = less object in
    let parts : count_by (leads_to object) (filter test handles) + count_by (leads_to object) (filter (λ k. not (test k)) handles) ≡ count_by (leads_to object) handles =
    sum_by-filter_both test (λ k. not (test k)) (λ _. refl) (λ k. cond (leads_to object k) 1 0) handles in
    let gone : count_by (leads_to object) (filter test handles) ≡ one_if h.object object = ap (count_by (leads_to object)) one ∙ one_count object h in
    after ∙ ap (λ n. n - one_if h.object object) (before ∙ sym parts ∙ ap (λ n. n + count_by (leads_to object) (filter (λ k. not (test k)) handles)) gone)
    ∙ minus (one_if h.object object) (count_by (leads_to object) (filter (λ k. not (test k)) handles))
  where
    minus : (a b : ℕ) → (a + b) - a ≡ b
    minus a b = omega arith

-- the counts of those that don't pass a test
pub counts_parted : (test : Held → Bool) (handles passing : List Held) (object : ℕ) → filter test handles ≡ passing
    → count_by (leads_to object) handles - count_by (leads_to object) passing ≡ count_by (leads_to object) (filter (λ k. not (test k)) handles)
counts_parted test handles passing object are =
    let parts : count_by (leads_to object) (filter test handles) + count_by (leads_to object) (filter (λ k. not (test k)) handles) ≡ count_by (leads_to object) handles =
    sum_by-filter_both test (λ k. not (test k)) (λ _. refl) (λ k. cond (leads_to object k) 1 0) handles in
    let same : count_by (leads_to object) (filter test handles) ≡ count_by (leads_to object) passing = ap (count_by (leads_to object)) are in
    omega (arith, parts, same)

-- a value is that of one handle of a table
pub one_of_value : (handles : List Held) (value : ℕ) (h : Held) → AllPairs (λ a b. a.value ≢ b.value) handles → find (λ k. k.value == value) handles ≡ Some h
    → filter (λ k. k.value == value) handles ≡ h ∷ []
one_of_value [] value h apart none = cc
one_of_value (k ∷ hs) value h apart found =
    go (k.value == value) refl found (one_of_value hs value h (λ i j d before below. apart (suc i) (suc j) d (omega (arith, before)) (omega (arith, below))))
  where
    others : k.value ≡ value → All (λ x. (x.value == value) ≡ false) hs
    others same = λ i d below. other (get_or hs i d) ((get_or hs i d).value == value) refl (apart 0 (suc i) d (omega arith) (omega (arith, below)))
      where
        other : (x : Held) (t : Bool) → (x.value == value) ≡ t → k.value ≢ x.value → (x.value == value) ≡ false
        other x true here differ = absurd (differ (let e : x.value ≡ value = eqb-true x.value value here in same ∙ sym e))
        other x false there differ = there

    go : (t : Bool) → (k.value == value) ≡ t → cond t (Some k) (find (λ x. x.value == value) hs) ≡ Some h
        → (find (λ x. x.value == value) hs ≡ Some h → filter (λ x. x.value == value) hs ≡ h ∷ [])
        → cond t (k ∷ filter (λ x. x.value == value) hs) (filter (λ x. x.value == value) hs) ≡ h ∷ []
    go true same here more =
        let it : k ≡ h = cc in
        ap (λ xs. k ∷ xs) (filter_none (λ x. x.value == value) hs (others (eqb-true k.value value same))) ∙ ap (λ x. x ∷ []) it
    go false other there more = more there

-- where no handle has a value none is taken
pub taken_none : (handles : List Held) (value : ℕ) → find (λ k. k.value == value) handles ≡ None → without handles value ≡ handles
taken_none [] value none = refl
taken_none (k ∷ hs) value none = go (k.value == value) none (taken_none hs value)
  where
    go : (t : Bool) → cond t (Some k) (find (λ x. x.value == value) hs) ≡ None → (find (λ x. x.value == value) hs ≡ None → without hs value ≡ hs)
        → cond (not t) (k ∷ without hs value) (without hs value) ≡ k ∷ hs
    go true here more = cc
    go false there more = ap (λ xs. k ∷ xs) (more there)

-- ---- one process

module _ (handles : List Held) (numbers : Numbers) (is : IsCounted handles numbers) where
  -- a handle comes last
  module _ (h : Held) (unused : IsUnused handles h.value) (new : List Held) (last : new ≡ handles ++ h ∷ []) where
    pub counted_more : (after : Numbers) → All (λ k. k.order < h.order) handles → CountsOneMore h.object numbers after → IsCounted new after
    counted_more after newest more = subst (λ hs. IsCounted hs after) (sym last) (record {
      table = pushed_table handles h is.table unused newest;
      counts = counts_more handles numbers after h is.counts more;
    })

    -- and is taken back
    module _ (back : List Held) (taken : back ≡ without new h.value) where
      pub taken_back : back ≡ handles
      taken_back = taken ∙ ap (λ hs. without hs h.value) last ∙ new_handle_is_taken_back handles h unused

      pub counted_back : (after : Numbers) → after ≡ numbers → IsCounted back after
      counted_back after unchanged = subst (λ hs. IsCounted hs after) (sym taken_back) (subst (IsCounted handles) (sym unchanged) is)

  -- a handle of a value is taken, or there is none
  module _ (value : ℕ) (left : List Held) (taken : left ≡ without handles value) where
    pub counted_same : find (λ k. k.value == value) handles ≡ None → IsCounted left numbers
    counted_same none = subst (λ hs. IsCounted hs numbers) (sym (taken ∙ taken_none handles value none)) is

    pub counted_fewer : (h : Held) (after : Numbers) → find (λ k. k.value == value) handles ≡ Some h → CountsOneLess h.object numbers after → IsCounted left after
    counted_fewer h after found less = subst (λ hs. IsCounted hs after) (sym taken) (record {
      table = taken_table handles value is.table;
      counts = counts_fewer (λ k. k.value == value) handles numbers after h is.counts less (one_of_value handles value h is.table.apart found);
    })

    pub length_fewer : (found : Option Held) → found ≡ find (λ k. k.value == value) handles → length left + (if is_some found then 1 else 0) ≡ length handles
    length_fewer found there =
        ap (λ hs. length hs + (if is_some found then 1 else 0)) taken ∙ ap (λ o. length (without handles value) + (if is_some o then 1 else 0)) there
        ∙ taken_length handles value is.table

-- ---- in one process, and in all

-- a handle to an object that is in another process is one that isn't counted in this one
pub holders : (here to : Held → Bool) (handles : List Held)
    → nat_lt (length (filter (λ h. here h && to h) handles)) (length (filter to handles)) ≡ list_any (λ h. to h && not (here h)) handles
holders here to [] = refl
holders here to (h ∷ hs) = go (here h) (to h) (holders here to hs)
  where
    fewer : (xs : List Held) → length (filter (λ k. here k && to k) xs) ≤ length (filter to xs)
    fewer [] = omega arith
    fewer (x ∷ xs) = step (here x) (to x) (fewer xs)
      where
        step : (s t : Bool) → length (filter (λ k. here k && to k) xs) ≤ length (filter to xs)
            → length (cond (s && t) (x ∷ filter (λ k. here k && to k) xs) (filter (λ k. here k && to k) xs)) ≤ length (cond t (x ∷ filter to xs) (filter to xs))
        step true true less = omega (arith, less)
        step true false less = less
        step false true less = omega (arith, less)
        step false false less = less

    both_more : (a b : ℕ) → nat_lt (suc a) (suc b) ≡ nat_lt a b
    both_more a b = grind (arith, nat_tests)

    one_more : (a b : ℕ) → a ≤ b → nat_lt a (suc b) ≡ true
    one_more a b less = grind (arith, nat_tests)

    go : (s t : Bool) → nat_lt (length (filter (λ k. here k && to k) hs)) (length (filter to hs)) ≡ list_any (λ k. to k && not (here k)) hs
        → nat_lt (length (cond (s && t) (h ∷ filter (λ k. here k && to k) hs) (filter (λ k. here k && to k) hs))) (length (cond t (h ∷ filter to hs) (filter to hs)))
        ≡ ((t && not s) || list_any (λ k. to k && not (here k)) hs)
    go true true more = both_more (length (filter (λ k. here k && to k) hs)) (length (filter to hs)) ∙ more
    go true false more = more
    go false true more = one_more (length (filter (λ k. here k && to k) hs)) (length (filter to hs)) (fewer hs)
    go false false more = more
