-- A table that two maps keep: what is found by a value, what is left when a handle goes, and what holds
-- of it.
use Rattle.std.proofs.Common.{◌≡◌, ◌≢◌, ◌∙◌, ℕ, ◌+◌, ◌<◌, ◌==◌, ltb, if◌then◌else◌, Bool, true, false, not, ◌&&◌, cond, List, [], ◌∷◌, ◌++◌, length, map, filter, find, get_or, slice_get, Option, None, Some, option_map, All, refl, ap, sym, subst, arith, eqb-true, eq-eqb}
use Rattle.std.proofs.lemmas.Bool.{false≢true}
use Rattle.std.proofs.lemmas.Bool.Decides.{nat_tests}
use Rattle.std.proofs.lemmas.List.{map-append, length-append}
use Rattle.std.proofs.lemmas.List.Elements.{All-nil, All-cons, All-head, All-tail, All-map}
use Rattle.std.proofs.lemmas.List.Kept.{AllPairs-cons}
use Rattle.std.proofs.lemmas.Map.Keys.{sorted_head, sorted_tail}
use Rattle.std.specs.BTreeMap.{is_at, insert_entry}
use Rattle.std.specs.List.{AllPairs, AllByRecursion}
use Rattle.std.specs.List.Sorted.{IsStrictlySortedBy}
use Rattle.std.specs.Map.{keys_of, remove_entry}
use Rattle.std.specs.Option.{option_and_then, is_some}
use Rattle.std.specs.BTreeMap.Range.{entries_between}
use Rattle.std.specs.declared.cmp.Ordering.TheVariants.{Less, Equal, Greater}
use Rattle.std.specs.declared.ops.Bound.TheVariants.{Excluded, Unbounded}
use Rattle.std.specs.Ordering.{nat_cmp, is_lt}
use Rattle.ob_model.specs.declared.state.Held.{Held}
use Rattle.ob_model.specs.Grants.{IsHandleValue}
use Rattle.ob_model.proofs.Finds.{filter_all}
use Rattle.ob_model.proofs.Ids.{Differ, Differ-from_rising, is_at-id, lookup-id, insert_entry-last, remove_entry-id}
use Rattle.ob_handles.specs.Table.{IsTable, without}
use Rattle.ob_handles.specs.Indexed.{at, IsIndexed}
use Rattle.ob_handles.proofs.Maps.{Puts, handles_put, values_put, handles_take, values_take}

-- ---- lists of entries under numbers that differ

turned : (a b : ℕ) → (a == b) ≡ false → (b == a) ≡ false
turned a b e = grind (arith, nat_tests)

-- each entry is what is found under its number
pub each_found : {X : Type 0} (es : List (ℕ × X)) → Differ es → All (λ e. at es e.0 ≡ Some e.1) es
each_found [] differ = All-nil (λ e. at [] e.0 ≡ Some e.1)
each_found {X} (e ∷ es) differ =
    All-cons (λ (x : ℕ × X). at (e ∷ es) x.0 ≡ Some x.1) e es (ap (λ b. cond b (Some e.1) (at es e.0)) (is_at-id e.0 e.0 ∙ eq-eqb e.0 e.0 refl))
    (λ k d below.
    let x : ℕ × X = get_or es k d in
    ap (λ b. cond b (Some e.1) (at es x.0)) (is_at-id x.0 e.0 ∙ turned x.0 e.0 (differ.0 k d below)) ∙ each_found es differ.1 k d below)

-- nothing is found where no element passes
find_none : {X Y : Type 0} (f : X → Y) (test : Y → Bool) (xs : List X) → All (λ x. test (f x) ≡ false) xs → find test (map f xs) ≡ None
find_none f test [] none = refl
find_none f test (x ∷ xs) none =
    ap (λ b. cond b (Some (f x)) (find test (map f xs))) (All-head (λ x. test (f x) ≡ false) x xs none)
    ∙ find_none f test xs (All-tail (λ x. test (f x) ≡ false) x xs none)

-- tests that agree find the same
pub find_agrees : {X Y : Type 0} (f : X → Y) (test : Y → Bool) (other : X → Bool) (xs : List X) → All (λ x. test (f x) ≡ other x) xs
    → find test (map f xs) ≡ option_map f (find other xs)
find_agrees f test other [] same = refl
find_agrees {X} {Y} f test other (x ∷ xs) same =
    ap (λ b. cond b (Some (f x)) (find test (map f xs))) (All-head (λ x. test (f x) ≡ other x) x xs same)
    ∙ go (other x) (find_agrees f test other xs (All-tail (λ x. test (f x) ≡ other x) x xs same))
  where
    go : (b : Bool) → find test (map f xs) ≡ option_map f (find other xs) → cond b (Some (f x)) (find test (map f xs)) ≡ option_map f (cond b (Some x) (find other xs))
    go true more = refl
    go false more = more

-- and leave the same
filter_agrees : {X Y : Type 0} (f : X → Y) (test : Y → Bool) (other : X → Bool) (xs : List X) → All (λ x. test (f x) ≡ other x) xs
    → map f (filter other xs) ≡ filter test (map f xs)
filter_agrees f test other [] same = refl
filter_agrees {X} {Y} f test other (x ∷ xs) same =
    go (other x) (filter_agrees f test other xs (All-tail (λ x. test (f x) ≡ other x) x xs same))
    ∙ sym (ap (λ b. cond b (f x ∷ filter test (map f xs)) (filter test (map f xs))) (All-head (λ x. test (f x) ≡ other x) x xs same))
  where
    go : (b : Bool) → map f (filter other xs) ≡ filter test (map f xs) → map f (cond b (x ∷ filter other xs) (filter other xs)) ≡ cond b (f x ∷ filter test (map f xs)) (filter test (map f xs))
    go true more = ap (λ ys. f x ∷ ys) more
    go false more = more

-- nothing is found under a number above all
none_below : {X : Type 0} (key : ℕ) (es : List (ℕ × X)) → All (λ e. e.0 < key) es → at es key ≡ None
none_below key [] below = refl
none_below {X} key (e ∷ es) below =
    ap (λ b. cond b (Some e.1) (at es key)) (is_at-id key e.0 ∙ other e.0 (All-head (λ (x : ℕ × X). x.0 < key) e es below))
    ∙ none_below key es (All-tail (λ (x : ℕ × X). x.0 < key) e es below)
  where
    other : (a : ℕ) → a < key → (a == key) ≡ false
    other a less = grind (arith, nat_tests)

-- the first entry of the range above a number is the first under a greater one
pub first_above : {X : Type 0} (number : ℕ) (es : List (ℕ × X)) → slice_get (entries_between nat_cmp (Excluded number) Unbounded es) 0 ≡ find (λ e. ltb number e.0) es
first_above number [] = refl
first_above {X} number (e ∷ es) = go (ltb number e.0) (number == e.0) (first_above number es)
  where
    go : (less equal : Bool) → slice_get (entries_between nat_cmp (Excluded number) Unbounded es) 0 ≡ find (λ (x : ℕ × X). ltb number x.0) es
        → slice_get (cond (is_lt (cond less Less (cond equal Equal Greater)) && true) (e ∷ entries_between nat_cmp (Excluded number) Unbounded es) (entries_between nat_cmp (Excluded number) Unbounded es)) 0
        ≡ cond less (Some e) (find (λ (x : ℕ × X). ltb number x.0) es)
    go true equal more = refl
    go false true more = more
    go false false more = more

-- ---- the table

module _ (by_order : List (ℕ × Held)) (by_value : List (ℕ × ℕ)) (is : IsIndexed by_order by_value) where
  differ : Differ by_order
  differ = Differ-from_rising by_order is.orders_rise

  there : All (λ e. at by_order e.0 ≡ Some e.1) by_order
  there = each_found by_order differ

  -- where a value leads to no order, no handle has it
  no_handle_has : (value : ℕ) → at by_value value ≡ None → All (λ e. (e.1.value == value) ≡ false) by_order
  no_handle_has value none = λ k d below.
      let e : ℕ × Held = get_or by_order k d in
      go e (e.1.value == value) refl (is.handles e.0 e.1 (there k d below)).1
    where
      go : (e : ℕ × Held) (b : Bool) → (e.1.value == value) ≡ b → at by_value e.1.value ≡ Some e.0 → (e.1.value == value) ≡ false
      go e true same leads =
          let one : at by_value e.1.value ≡ at by_value value = ap (at by_value) (eqb-true e.1.value value same) in
          cc
      go e false other leads = other

  -- and where it leads to one, the handle under that order alone has it
  one_handle_has : (value order : ℕ) → at by_value value ≡ Some order → All (λ e. (e.1.value == value) ≡ (e.0 == order)) by_order
  one_handle_has value order leads = λ k d below.
      let e : ℕ × Held = get_or by_order k d in
      let found : at by_order e.0 ≡ Some e.1 = there k d below in
      go e (e.1.value == value) refl (e.0 == order) refl found (is.handles e.0 e.1 found).1
    where
      go : (e : ℕ × Held) (a : Bool) → (e.1.value == value) ≡ a → (b : Bool) → (e.0 == order) ≡ b → at by_order e.0 ≡ Some e.1 → at by_value e.1.value ≡ Some e.0
          → (e.1.value == value) ≡ (e.0 == order)
      go e true same b other found own =
          let one : at by_value e.1.value ≡ at by_value value = ap (at by_value) (eqb-true e.1.value value same) in
          let orders : e.0 ≡ order = cc in
          same ∙ sym (eq-eqb e.0 order orders)
      go e false apart true same found own =
          let under : at by_order e.0 ≡ at by_order order = ap (at by_order) (eqb-true e.0 order same) in
          let it : option_map (λ h. h.value) (at by_order order) ≡ Some value = is.values value order leads in
          let values : e.1.value ≡ value = cc in
          absurd (false≢true (sym apart ∙ eq-eqb e.1.value value values))
      go e false apart false other found own = apart ∙ sym other

  -- what is found by a value
  pub found_by_value : (value : ℕ) → find (λ h. h.value == value) (map (λ e. e.1) by_order) ≡ option_and_then (at by_order) (at by_value value)
  found_by_value value = go (at by_value value) refl
    where
      go : (o : Option ℕ) → at by_value value ≡ o → find (λ h. h.value == value) (map (λ e. e.1) by_order) ≡ option_and_then (at by_order) o
      go None none = find_none (λ (e : ℕ × Held). e.1) (λ h. h.value == value) by_order (no_handle_has value none)
      go (Some order) leads =
          find_agrees (λ (e : ℕ × Held). e.1) (λ h. h.value == value) (λ e. e.0 == order) by_order (one_handle_has value order leads) ∙ sym (lookup-id order by_order)

  -- a value that isn't used leads to no order
  pub unused_leads_nowhere : (value : ℕ) → find (λ h. h.value == value) (map (λ e. e.1) by_order) ≡ None → at by_value value ≡ None
  unused_leads_nowhere value none = go (at by_value value) refl (sym (found_by_value value) ∙ none)
    where
      go : (o : Option ℕ) → at by_value value ≡ o → option_and_then (at by_order) o ≡ None → at by_value value ≡ None
      go None leads nothing = leads
      go (Some order) leads nothing =
          let it : option_map (λ h. h.value) (at by_order order) ≡ Some value = is.values value order leads in
          cc

  -- and the other way round
  pub leads_nowhere_unused : (value : ℕ) → at by_value value ≡ None → find (λ h. h.value == value) (map (λ e. e.1) by_order) ≡ None
  leads_nowhere_unused value none = found_by_value value ∙ ap (option_and_then (at by_order)) none

  -- what is left where a value leads to an order, and where it leads nowhere
  pub without_one : (left : List (ℕ × Held)) (value order : ℕ) → at by_value value ≡ Some order → left ≡ remove_entry (is_at (nat_cmp order)) by_order
      → map (λ e. e.1) left ≡ without (map (λ e. e.1) by_order) value
  without_one left value order leads taken =
      ap (map (λ (e : ℕ × Held). e.1)) (taken ∙ remove_entry-id order by_order differ)
      ∙ filter_agrees (λ (e : ℕ × Held). e.1) (λ h. not (h.value == value)) (λ e. not (e.0 == order)) by_order
      (λ k d below. ap not (one_handle_has value order leads k d below))

  pub without_none : (value : ℕ) → at by_value value ≡ None → map (λ e. e.1) by_order ≡ without (map (λ e. e.1) by_order) value
  without_none value none =
      sym (filter_all (λ h. not (h.value == value)) (map (λ e. e.1) by_order)
      (All-map (λ h. not (h.value == value) ≡ true) (λ (e : ℕ × Held). e.1) by_order (λ k d below. ap not (no_handle_has value none k d below))))

-- ---- what the calls of the maps give, of the table as it is seen

module _ (by_order : List (ℕ × Held)) (by_value : List (ℕ × ℕ)) (is : IsIndexed by_order by_value) (now : List Held) (same : map (λ e. e.1) by_order ≡ now)
    (key value : ℕ) (is_value : key ≡ value) where
  pub nothing_found : at by_value key ≡ None → None ≡ find (λ h. h.value == value) now
  nothing_found none =
      sym (leads_nowhere_unused by_order by_value is key none) ∙ ap (find (λ h. h.value == key)) same ∙ ap (λ v. find (λ h. h.value == v) now) is_value

  pub something_found : (order : ℕ) (found : Option Held) → at by_value key ≡ Some order → found ≡ at by_order order → found ≡ find (λ h. h.value == value) now
  something_found order found leads e =
      e ∙ sym (ap (option_and_then (at by_order)) leads) ∙ sym (found_by_value by_order by_value is key) ∙ ap (find (λ h. h.value == key)) same
      ∙ ap (λ v. find (λ h. h.value == v) now) is_value

  pub nothing_taken : at by_value key ≡ None → map (λ e. e.1) by_order ≡ without now value
  nothing_taken none = without_none by_order by_value is key none ∙ ap (λ hs. without hs key) same ∙ ap (without now) is_value

  pub something_taken : (left : List (ℕ × Held)) (order : ℕ) → at by_value key ≡ Some order → left ≡ remove_entry (is_at (nat_cmp order)) by_order
      → map (λ e. e.1) left ≡ without now value
  something_taken left order leads taken =
      without_one by_order by_value is left key order leads taken ∙ ap (λ hs. without hs key) same ∙ ap (without now) is_value

-- the first entry of the range above an order has the first handle that was opened after it
pub opened_after : (by_order : List (ℕ × Held)) (by_value : List (ℕ × ℕ)) → IsIndexed by_order by_value → (now : List Held) → map (λ e. e.1) by_order ≡ now
    → (order : ℕ) (above : List (ℕ × Held)) → above ≡ entries_between nat_cmp (Excluded order) Unbounded by_order
    → option_map (λ e. e.1) (slice_get above 0) ≡ find (λ h. ltb order h.order) now
opened_after by_order by_value is now same order above is_above =
    ap (λ es. option_map (λ (e : ℕ × Held). e.1) (slice_get es 0)) is_above
    ∙ ap (option_map (λ (e : ℕ × Held). e.1)) (first_above order by_order)
    ∙ sym (find_agrees (λ (e : ℕ × Held). e.1) (λ h. ltb order h.order) (λ e. ltb order e.0) by_order
    (λ k d below. ap (ltb order) (is.handles (get_or by_order k d).0 (get_or by_order k d).1 (there by_order by_value is k d below)).0))
    ∙ ap (find (λ h. ltb order h.order)) same

-- ---- a handle comes, or goes

puts : {X : Type 0} (f t : ℕ → Option X) (key : ℕ) (value : Option X) → ((q : ℕ) → t q ≡ cond (is_at (nat_cmp key) q) value (f q)) → Puts f t key value
puts f t key value says = λ q. says q ∙ ap (λ b. cond b value (f q)) (is_at-id key q)

all_before : (test : Held → Type 0) (es : List (ℕ × Held)) → All test (map (λ e. e.1) es) → All (λ e. test e.1) es
all_before test [] all = All-nil (λ e. test e.1)
all_before test (e ∷ es) all =
    All-cons (λ (x : ℕ × Held). test x.1) e es (All-head test e.1 (map (λ x. x.1) es) all) (all_before test es (All-tail test e.1 (map (λ x. x.1) es) all))

module _ (by_order : List (ℕ × Held)) (by_value : List (ℕ × ℕ)) (is : IsIndexed by_order by_value) where
  -- an order above those of the table is above those of the map
  pub newest_inside : (now : List Held) (order : ℕ) → map (λ e. e.1) by_order ≡ now → All (λ h. h.order < order) now → All (λ e. e.0 < order) by_order
  newest_inside now order same newest = λ k d below.
      let e : ℕ × Held = get_or by_order k d in
      let own : e.1.order ≡ e.0 = (is.handles e.0 e.1 (each_found by_order (Differ-from_rising by_order is.orders_rise) k d below)).0 in
      subst (λ o. o < order) own (all_before (λ h. h.order < order) by_order (subst (All (λ h. h.order < order)) (sym same) newest) k d below)

  -- a handle is taken from both maps
  pub taken_indexed : (left : List (ℕ × Held)) (values_left : List (ℕ × ℕ)) (value order : ℕ) (found : Option Held) → at by_value value ≡ Some order → found ≡ at by_order order
      → IsStrictlySortedBy nat_cmp (keys_of left) → IsStrictlySortedBy nat_cmp (keys_of values_left)
      → ((q : ℕ) → at left q ≡ cond (is_at (nat_cmp order) q) None (at by_order q)) → ((q : ℕ) → at values_left q ≡ cond (is_at (nat_cmp value) q) None (at by_value q))
      → length left + (if is_some found then 1 else 0) ≡ length by_order → length values_left + 1 ≡ length by_value → IsIndexed left values_left
  taken_indexed left values_left value order found leads it orders_rise values_rise orders_say values_say fewer fewer_values = record {
    orders_rise = orders_rise;
    values_rise = values_rise;
    handles = handles_take (at by_order) (at left) (at by_value) (at values_left) is.handles is.values value order leads (puts (at by_order) (at left) order None orders_say)
        (puts (at by_value) (at values_left) value None values_say);
    values = values_take (at by_order) (at left) (at by_value) (at values_left) is.handles is.values value order leads (puts (at by_order) (at left) order None orders_say)
        (puts (at by_value) (at values_left) value None values_say);
    as_many = go found (ap (option_map (λ h. h.value)) it ∙ is.values value order leads) fewer;
  }
    where
      go : (o : Option Held) → option_map (λ h. h.value) o ≡ Some value → length left + (if is_some o then 1 else 0) ≡ length by_order → length values_left ≡ length left
      go None some less = cc
      go (Some h) some less = let many = is.as_many in omega (arith, less, fewer_values, many)

  -- a handle is put into both
  pub put_indexed : (new : List (ℕ × Held)) (values_new : List (ℕ × ℕ)) (held : Held) → IsHandleValue held.value → at by_value held.value ≡ None → All (λ e. e.0 < held.order) by_order
      → IsStrictlySortedBy nat_cmp (keys_of new) → IsStrictlySortedBy nat_cmp (keys_of values_new)
      → ((q : ℕ) → at new q ≡ cond (is_at (nat_cmp held.order) q) (Some held) (at by_order q))
      → ((q : ℕ) → at values_new q ≡ cond (is_at (nat_cmp held.value) q) (Some held.order) (at by_value q))
      → new ≡ insert_entry nat_cmp by_order held.order held → (old : Option ℕ) → old ≡ at by_value held.value → length values_new ≡ length by_value + (if is_some old then 0 else 1)
      → IsIndexed new values_new
  put_indexed new values_new held value unused newest orders_rise values_rise orders_say values_say put old there more = record {
    orders_rise = orders_rise;
    values_rise = values_rise;
    handles = handles_put (at by_order) (at new) (at by_value) (at values_new) is.handles is.values held (puts (at by_order) (at new) held.order (Some held) orders_say)
        (puts (at by_value) (at values_new) held.value (Some held.order) values_say) value no_order unused;
    values = values_put (at by_order) (at new) (at by_value) (at values_new) is.handles is.values held (puts (at by_order) (at new) held.order (Some held) orders_say)
        (puts (at by_value) (at values_new) held.value (Some held.order) values_say) value no_order unused;
    as_many = longer (subst (λ o. length values_new ≡ length by_value + (if is_some o then 0 else 1)) (there ∙ unused) more);
  }
    where
      no_order : at by_order held.order ≡ None
      no_order = none_below held.order by_order newest

      longer : length values_new ≡ length by_value + 1 → length values_new ≡ length new
      longer one_more =
          let many = is.as_many in
          let last : length new ≡ length by_order + 1 = ap length (put ∙ insert_entry-last held.order held by_order newest) ∙ length-append by_order ((held.order, held) ∷ []) in
          omega (arith, one_more, many, last)

  -- the same, where the second map is asked by an equal number
  pub put_indexed_at : (new : List (ℕ × Held)) (values_new : List (ℕ × ℕ)) (held : Held) (key : ℕ) → key ≡ held.value
      → IsHandleValue held.value → at by_value held.value ≡ None → All (λ e. e.0 < held.order) by_order
      → IsStrictlySortedBy nat_cmp (keys_of new) → IsStrictlySortedBy nat_cmp (keys_of values_new)
      → ((q : ℕ) → at new q ≡ cond (is_at (nat_cmp held.order) q) (Some held) (at by_order q))
      → ((q : ℕ) → at values_new q ≡ cond (is_at (nat_cmp key) q) (Some held.order) (at by_value q))
      → new ≡ insert_entry nat_cmp by_order held.order held → (old : Option ℕ) → old ≡ at by_value key → length values_new ≡ length by_value + (if is_some old then 0 else 1)
      → IsIndexed new values_new
  put_indexed_at new values_new held key is_value value unused newest orders_rise values_rise orders_say values_say put old there more =
      put_indexed new values_new held value unused newest orders_rise values_rise orders_say
      (subst (λ v. (q : ℕ) → at values_new q ≡ cond (is_at (nat_cmp v) q) (Some held.order) (at by_value q)) is_value values_say)
      put old (there ∙ ap (at by_value) is_value) more

  -- a value that the table doesn't use leads to no order
  pub unused_inside : (now : List Held) (value : ℕ) → map (λ e. e.1) by_order ≡ now → find (λ h. h.value == value) now ≡ None → at by_value value ≡ None
  unused_inside now value same unused = unused_leads_nowhere by_order by_value is value (ap (find (λ h. h.value == value)) same ∙ unused)

  -- each value is a handle value
  pub keys_are_values : All IsHandleValue (keys_of by_value)
  keys_are_values = All-map IsHandleValue (λ (i : ℕ × ℕ). i.0) by_value (λ k d below. one (get_or by_value k d) (each_found by_value (Differ-from_rising by_value is.values_rise) k d below))
    where
      one : (i : ℕ × ℕ) → at by_value i.0 ≡ Some i.1 → IsHandleValue i.0
      one i found = go (at by_order i.1) refl (is.values i.0 i.1 found)
        where
          go : (o : Option Held) → at by_order i.1 ≡ o → option_map (λ h. h.value) o ≡ Some i.0 → IsHandleValue i.0
          go None there says = cc
          go (Some h) there says = let same : h.value ≡ i.0 = cc in subst IsHandleValue same (is.handles i.1 h there).2

-- what was put into the first map is taken out again
pub put_back : (inside new left : List (ℕ × Held)) (order : ℕ) (held : Held) → All (λ e. e.0 < order) inside → IsStrictlySortedBy nat_cmp (keys_of new)
    → new ≡ insert_entry nat_cmp inside order held → left ≡ remove_entry (is_at (nat_cmp order)) new → left ≡ inside
put_back inside new left order held newest rising put taken =
    taken ∙ remove_entry-id order new (Differ-from_rising new rising)
    ∙ ap (filter (λ (e : ℕ × Held). not (e.0 == order))) (put ∙ insert_entry-last order held inside newest)
    ∙ dropped inside newest
  where
    other : (a : ℕ) → a < order → (a == order) ≡ false
    other a below = grind (arith, nat_tests)

    dropped : (es : List (ℕ × Held)) → All (λ e. e.0 < order) es → filter (λ e. not (e.0 == order)) (es ++ (order, held) ∷ []) ≡ es
    dropped [] below = ap (λ b. cond (not b) ((order, held) ∷ []) []) (eq-eqb order order refl)
    dropped (e ∷ es) below =
        ap (λ b. cond (not b) (e ∷ filter (λ (x : ℕ × Held). not (x.0 == order)) (es ++ (order, held) ∷ [])) (filter (λ (x : ℕ × Held). not (x.0 == order)) (es ++ (order, held) ∷ [])))
        (other e.0 (All-head (λ (x : ℕ × Held). x.0 < order) e es below))
        ∙ ap (λ xs. e ∷ xs) (dropped es (All-tail (λ (x : ℕ × Held). x.0 < order) e es below))

-- ---- what holds of every table

behind : (o : ℕ) (es : List (ℕ × Held)) → AllByRecursion (λ y. nat_cmp o y ≡ Less) (keys_of es) → All (λ e. o < e.0) es
behind o [] rising = All-nil (λ e. o < e.0)
behind o (e ∷ es) rising = All-cons (λ e. o < e.0) e es (less o e.0 rising.0) (behind o es rising.1)
  where
    less : (a b : ℕ) → nat_cmp a b ≡ Less → a < b
    less a b is = grind (arith, nat_tests)

module _ (by_value : ℕ → Option ℕ) where
  -- handles under rising orders, each with its own order, and with a value that leads to it
  abbrev Each : ℕ × Held → Type 0
  Each e = (e.1.order ≡ e.0) × (by_value e.1.value ≡ Some e.0) × IsHandleValue e.1.value

  orders_rise : (es : List (ℕ × Held)) → IsStrictlySortedBy nat_cmp (keys_of es) → All Each es → AllPairs (λ a b. a.order < b.order) (map (λ e. e.1) es)
  orders_rise [] rising each = λ i j d before below. absurd (omega (arith, below))
  orders_rise (e ∷ es) rising each =
      AllPairs-cons (λ (a b : Held). a.order < b.order) e.1 (map (λ e. e.1) es)
      (All-map (λ (h : Held). e.1.order < h.order) (λ (x : ℕ × Held). x.1) es (λ k d below. above (get_or es k d) (later k d below) (tail k d below).0))
      (orders_rise es (sorted_tail nat_cmp e.0 (keys_of es) rising) tail)
    where
      tail : All Each es
      tail = All-tail Each e es each

      later : All (λ x. e.0 < x.0) es
      later = behind e.0 es (sorted_head nat_cmp e.0 (keys_of es) rising)

      above : (x : ℕ × Held) → e.0 < x.0 → x.1.order ≡ x.0 → e.1.order < x.1.order
      above x before own = let first = (All-head Each e es each).0 in omega (arith, before, own, first)

  values_apart : (es : List (ℕ × Held)) → IsStrictlySortedBy nat_cmp (keys_of es) → All Each es → AllPairs (λ a b. a.value ≢ b.value) (map (λ e. e.1) es)
  values_apart [] rising each = λ i j d before below. absurd (omega (arith, below))
  values_apart (e ∷ es) rising each =
      AllPairs-cons (λ (a b : Held). a.value ≢ b.value) e.1 (map (λ e. e.1) es)
      (All-map (λ (h : Held). e.1.value ≢ h.value) (λ (x : ℕ × Held). x.1) es (λ k d below. apart (get_or es k d) (later k d below) (tail k d below).1))
      (values_apart es (sorted_tail nat_cmp e.0 (keys_of es) rising) tail)
    where
      tail : All Each es
      tail = All-tail Each e es each

      later : All (λ x. e.0 < x.0) es
      later = behind e.0 es (sorted_head nat_cmp e.0 (keys_of es) rising)

      first : by_value e.1.value ≡ Some e.0
      first = (All-head Each e es each).1

      apart : (x : ℕ × Held) → e.0 < x.0 → by_value x.1.value ≡ Some x.0 → e.1.value ≢ x.1.value
      apart x before own same =
          let one : by_value e.1.value ≡ by_value x.1.value = ap by_value same in
          let leads : Some e.0 ≡ Some x.0 = sym first ∙ one ∙ own in
          let orders : e.0 ≡ x.0 = cc in
          omega (arith, before, orders)

pub is_table : (by_order : List (ℕ × Held)) (by_value : List (ℕ × ℕ)) → IsIndexed by_order by_value → IsTable (map (λ e. e.1) by_order)
is_table by_order by_value is = record {
  rising = orders_rise (at by_value) by_order is.orders_rise each;
  apart = values_apart (at by_value) by_order is.orders_rise each;
  values = All-map (λ (h : Held). IsHandleValue h.value) (λ (e : ℕ × Held). e.1) by_order (λ k d below. (each k d below).2);
}
  where
    each : All (Each (at by_value)) by_order
    each = λ k d below. is.handles (get_or by_order k d).0 (get_or by_order k d).1 (each_found by_order (Differ-from_rising by_order is.orders_rise) k d below)

-- a handle that came last
pub put_last : (new inside : List (ℕ × Held)) (now : List Held) (order : ℕ) (held : Held) → new ≡ insert_entry nat_cmp inside order held
    → map (λ e. e.1) inside ≡ now → All (λ e. e.0 < order) inside → map (λ e. e.1) new ≡ now ++ held ∷ []
put_last new inside now order held put same newest =
    ap (map (λ (e : ℕ × Held). e.1)) (put ∙ insert_entry-last order held inside newest)
    ∙ map-append (λ (e : ℕ × Held). e.1) inside ((order, held) ∷ [])
    ∙ ap (λ hs. hs ++ held ∷ []) same
