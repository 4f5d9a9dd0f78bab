-- The counts of a map whose objects are told apart by equality: where they stand, and what one that is
-- written or put in makes of all.
use Rattle.std.proofs.Common.{◌≡◌, ◌∙◌, ℕ, ◌≤◌, ◌+◌, ◌-◌, ◌==◌, ◌||◌, Bool, true, false, cond, if◌then◌else◌, nat_eq, [], ◌∷◌, Option, Some, None, option_map, slice_get, All, refl, ap, sym, arith, eqb-true, Fits, w64}
use Rattle.std.proofs.lemmas.Bool.Decides.{nat_tests}
use Rattle.std.proofs.lemmas.List.Elements.{All-nil, All-cons}
use Rattle.std.proofs.lemmas.Map.Entries.{hash_map_get_place}
use Rattle.std.proofs.lemmas.Map.Keys.{IsDistinct-head, IsDistinct-tail}
use Rattle.std.proofs.lemmas.Map.Made.{lookup_key_passes}
use Rattle.std.proofs.lemmas.Option.{slice_get-map}
use Rattle.std.specs.BTreeMap.{is_at}
use Rattle.std.specs.Cmp.{IsEquivalence}
use Rattle.std.specs.List.{AllByRecursion, IsDistinct, list_any}
use Rattle.std.specs.Map.{keys_of, values_of, lookup, lookup_key}
use Rattle.std.specs.Option.{unwrap_or, is_some}
use Rattle.std.specs.Ordering.{nat_cmp}
use Rattle.indexmap.specs.IndexMap.{IndexMap, IsUnique, Updates, with_value_at, set_value_at}
use Rattle.indexmap.proofs.CallerLemmas.{updates-with_value_at}
use Rattle.ob_model.proofs.Ids.{Differ}
use Rattle.ob_model.specs.State.{greatest_number}
use Rattle.ob_handles.specs.Counts.{Numbers, count_of, is_listed, one_if}

same_test : (a b : ℕ) → is_at (nat_cmp a) b ≡ nat_eq a b
same_test a b = grind (arith, nat_tests)

turned_test : (a b : ℕ) → nat_eq a b ≡ (b == a)
turned_test a b = grind (arith, nat_tests)

equal_is : (a b : ℕ) → nat_eq a b ≡ true → a ≡ b
equal_is a b e = grind (arith, nat_tests)

equal_itself : (a : ℕ) → nat_eq a a ≡ true
equal_itself a = grind (arith, nat_tests)

equal_turned : (a b : ℕ) → nat_eq a b ≡ nat_eq b a
equal_turned a b = grind (arith, nat_tests)

equal_passed : (a b c : ℕ) → nat_eq a b ≡ true → nat_eq a c ≡ nat_eq b c
equal_passed a b c e = ap (λ n. nat_eq n c) (equal_is a b e)

equals : IsEquivalence nat_eq
equals = record { refl = equal_itself; symm = equal_turned; congr = equal_passed }

-- what is found under an object by equality
pub found_as : (object : ℕ) (es : Numbers) → lookup (is_at (nat_cmp object)) es ≡ lookup (nat_eq object) es
found_as object [] = refl
found_as object (e ∷ es) = ap (λ t. cond t (Some e.1) (lookup (is_at (nat_cmp object)) es)) (same_test object e.0) ∙ ap (λ o. cond (nat_eq object e.0) (Some e.1) o) (found_as object es)

-- objects that are told apart differ
others : (k : ℕ) (es : Numbers) → AllByRecursion (λ y. nat_eq k y ≡ false) (keys_of es) → All (λ x. (x.0 == k) ≡ false) es
others k [] apart = All-nil (λ x. (x.0 == k) ≡ false)
others k (e ∷ es) apart = All-cons (λ x. (x.0 == k) ≡ false) e es (sym (turned_test k e.0) ∙ apart.0) (others k es apart.1)

pub differ : (es : Numbers) → IsDistinct nat_eq (keys_of es) → Differ es
differ [] apart = tt
differ (e ∷ es) apart = (others e.0 es (IsDistinct-head nat_eq e.0 (keys_of es) apart), differ es (IsDistinct-tail nat_eq e.0 (keys_of es) apart))

-- an object's count, where it is found
pub counted_at : (es : Numbers) (object place key count : ℕ) → slice_get es place ≡ Some (key, count) → key ≡ object → lookup (nat_eq key) es ≡ Some count
    → slice_get es place ≡ Some (object, count_of es object)
counted_at es object place key count at same found =
    at ∙ ap (λ k. Some (k, count)) same
    ∙ ap (λ c. Some (object, c)) (sym (ap (λ o. unwrap_or o 0) (found_as object es ∙ ap (λ k. lookup (nat_eq k) es) (sym same) ∙ found)))

pub counted_in_full : (es : Numbers) (object place key count : ℕ) → slice_get es place ≡ Some (key, count) → Some key ≡ lookup_key (nat_eq object) es
    → Some count ≡ lookup (nat_eq object) es → slice_get es place ≡ Some (object, count_of es object)
counted_in_full es object place key count at is found =
    let same : object ≡ key = equal_is object key (lookup_key_passes (nat_eq object) es key (sym is)) in
    counted_at es object place key count at (sym same) (ap (λ k. lookup (nat_eq k) es) (sym same) ∙ sym found)

-- the count that stands at the place of an object is its own
pub count_there : (es : Numbers) (object place count : ℕ) → slice_get es place ≡ Some (object, count_of es object) → Some count ≡ slice_get (values_of es) place → count ≡ count_of es object
count_there es object place count at is =
    let e : Some count ≡ Some (count_of es object) = is ∙ slice_get-map (λ (e : ℕ × ℕ). e.1) es place ∙ ap (option_map (λ (e : ℕ × ℕ). e.1)) at in
    cc

module _ {S : Type 0} (old new : IndexMap ℕ ℕ S) (object count : ℕ) (updates : Updates nat_eq old new object (Some count)) where
  found_then : (q : ℕ) → lookup (is_at (nat_cmp q)) new.entries ≡ cond (q == object) (Some count) (lookup (is_at (nat_cmp q)) old.entries)
  found_then q =
      found_as q new.entries ∙ updates.0 q ∙ ap (λ t. cond t (Some count) (lookup (nat_eq q) old.entries)) (turned_test object q)
      ∙ ap (λ o. cond (q == object) (Some count) o) (sym (found_as q old.entries))

  pub count_then : (q : ℕ) → count_of new.entries q ≡ cond (q == object) count (count_of old.entries q)
  count_then q = ap (λ o. unwrap_or o 0) (found_then q) ∙ pick (q == object)
    where
      pick : (t : Bool) → unwrap_or (cond t (Some count) (lookup (is_at (nat_cmp q)) old.entries)) 0 ≡ cond t count (count_of old.entries q)
      pick true = refl
      pick false = refl

  pub listed_then : (q : ℕ) → is_listed new.entries q ≡ cond (q == object) true (is_listed old.entries q)
  listed_then q = ap is_some (found_then q) ∙ pick (q == object)
    where
      pick : (t : Bool) → is_some (cond t (Some count) (lookup (is_at (nat_cmp q)) old.entries)) ≡ cond t true (is_listed old.entries q)
      pick true = refl
      pick false = refl

-- a count that is written at its place
module _ {S : Type 0} (m : IndexMap ℕ ℕ S) (unique : IsUnique nat_eq m) (now : Numbers) (same : m.entries ≡ now) (object place w : ℕ)
    (at : slice_get m.entries place ≡ Some (object, count_of m.entries object)) where
  updates : Updates nat_eq m (with_value_at m place w) object (Some w)
  updates = updates-with_value_at m place w equals unique object (count_of m.entries object) at

  pub one_more : w ≡ count_of m.entries object + 1 → (q : ℕ) → count_of (set_value_at m.entries place w) q ≡ count_of now q + one_if object q
  one_more is q = count_then m (with_value_at m place w) object w updates q ∙ go (q == object) refl ∙ ap (λ (n : Numbers). count_of n q + one_if object q) same
    where
      go : (t : Bool) → (q == object) ≡ t → cond t w (count_of m.entries q) ≡ count_of m.entries q + one_if object q
      go true e =
          let here : count_of m.entries q ≡ count_of m.entries object = ap (count_of m.entries) (eqb-true q object e) in
          let one : one_if object q ≡ 1 = ap (λ b. if b then 1 else 0) e in
          omega (arith, is, here, one)
      go false e =
          let none : one_if object q ≡ 0 = ap (λ b. if b then 1 else 0) e in
          omega (arith, none)

  pub less : (by : ℕ) → w ≡ count_of m.entries object - by → (q : ℕ) → count_of (set_value_at m.entries place w) q ≡ count_of now q - (if q == object then by else 0)
  less by is q = count_then m (with_value_at m place w) object w updates q ∙ go (q == object) refl ∙ ap (λ (n : Numbers). count_of n q - (if q == object then by else 0)) same
    where
      go : (t : Bool) → (q == object) ≡ t → cond t w (count_of m.entries q) ≡ count_of m.entries q - (if q == object then by else 0)
      go true e =
          let here : count_of m.entries q ≡ count_of m.entries object = ap (count_of m.entries) (eqb-true q object e) in
          let so : (if q == object then by else 0) ≡ by = ap (λ (b : Bool). if b then by else 0) e in
          omega (arith, is, here, so)
      go false e =
          let so : (if q == object then by else 0) ≡ 0 = ap (λ (b : Bool). if b then by else 0) e in
          omega (arith, so)

  pub listed_as_before : (q : ℕ) → is_listed (set_value_at m.entries place w) q ≡ is_listed now q
  listed_as_before q = listed_then m (with_value_at m place w) object w updates q ∙ go (q == object) refl ∙ ap (λ (n : Numbers). is_listed n q) same
    where
      here : is_listed m.entries object ≡ true
      here = ap is_some (found_as object m.entries ∙ hash_map_get_place equals m place object (count_of m.entries object) unique at)

      go : (t : Bool) → (q == object) ≡ t → cond t true (is_listed m.entries q) ≡ is_listed m.entries q
      go true e = sym (ap (is_listed m.entries) (eqb-true q object e) ∙ here)
      go false e = refl

-- the first count of an object of which none is kept
module _ {S : Type 0} (m n : IndexMap ℕ ℕ S) (now : Numbers) (same : m.entries ≡ now) (object : ℕ) (updates : Updates nat_eq m n object (Some 1)) (none : is_listed now object ≡ false) where
  pub first_counted : (q : ℕ) → count_of n.entries q ≡ count_of now q + one_if object q
  first_counted q = count_then m n object 1 updates q ∙ ap (λ (l : Numbers). cond (q == object) 1 (count_of l q)) same ∙ go (q == object) refl
    where
      zero : (o : Option ℕ) → is_some o ≡ false → unwrap_or o 0 ≡ 0
      zero None e = refl
      zero (Some x) e = cc

      go : (t : Bool) → (q == object) ≡ t → cond t 1 (count_of now q) ≡ count_of now q + one_if object q
      go true e =
          let here : count_of now q ≡ 0 = ap (count_of now) (eqb-true q object e) ∙ zero (lookup (is_at (nat_cmp object)) now) none in
          let one : one_if object q ≡ 1 = ap (λ b. if b then 1 else 0) e in
          omega (arith, here, one)
      go false e =
          let so : one_if object q ≡ 0 = ap (λ b. if b then 1 else 0) e in
          omega (arith, so)

-- what is listed is what is among the keys
pub listed_in : (object : ℕ) (es : Numbers) → is_listed es object ≡ list_any (λ id. id == object) (keys_of es)
listed_in object [] = refl
listed_in object (e ∷ es) = ap (λ t. is_some (cond t (Some e.1) (lookup (is_at (nat_cmp object)) es))) (same_test object e.0 ∙ turned_test object e.0) ∙ go (e.0 == object) (listed_in object es)
  where
    go : (t : Bool) → is_listed es object ≡ list_any (λ id. id == object) (keys_of es)
        → is_some (cond t (Some e.1) (lookup (is_at (nat_cmp object)) es)) ≡ (t || list_any (λ id. id == object) (keys_of es))
    go true more = refl
    go false more = more

-- one more than a count that isn't the greatest fits
pub fits_next : (count n : ℕ) → count ≡ n → n ≤ greatest_number → Fits w64 (count + 1)
fits_next count n is room = grind (arith)
