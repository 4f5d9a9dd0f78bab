-- An entry of a map comes after those of lesser numbers, so that entries that come in their order make the same map.
use Rattle.std.proofs.Common.{◌≡◌, ◌∙◌, ℕ, ◌<◌, List, [], ◌∷◌, ◌++◌, All, arith, ap, sym, subst, refl}
use Rattle.std.proofs.lemmas.Bool.Decides.{nat_tests}
use Rattle.std.proofs.lemmas.List.{append_assoc}
use Rattle.std.proofs.lemmas.List.Elements.{All-nil, All-cons}
use Rattle.std.proofs.lemmas.Map.Keys.{sorted_head, sorted_tail}
use Rattle.std.specs.BTreeMap.{insert_entry}
use Rattle.std.specs.declared.cmp.Ordering.TheVariants.{Less}
use Rattle.std.specs.List.{AllByRecursion}
use Rattle.std.specs.List.Sorted.{IsStrictlySortedBy}
use Rattle.std.specs.Map.{keys_of}
use Rattle.std.specs.Ordering.{nat_cmp}
use Rattle.ob_model.proofs.Ids.{insert_entry-last}

is_less : (a b : ℕ) → nat_cmp a b ≡ Less → a < b
is_less a b e = grind (arith, nat_tests)

module _ {X : Type 0} where
  among : (P : ℕ → Type 0) (xs : List (ℕ × X)) (e : ℕ × X) (ys : List (ℕ × X)) → AllByRecursion P (keys_of (xs ++ e ∷ ys)) → P e.0
  among P [] e ys all = all.0
  among P (x ∷ xs) e ys all = among P xs e ys all.1

  before : (xs : List (ℕ × X)) (e : ℕ × X) (ys : List (ℕ × X)) → IsStrictlySortedBy nat_cmp (keys_of (xs ++ e ∷ ys)) → All (λ x. x.0 < e.0) xs
  before [] e ys rises = All-nil (λ (x : ℕ × X). x.0 < e.0)
  before (x ∷ xs) e ys rises =
      All-cons (λ (y : ℕ × X). y.0 < e.0) x xs
      (is_less x.0 e.0 (among (λ y. nat_cmp x.0 y ≡ Less) xs e ys (sorted_head nat_cmp x.0 (keys_of (xs ++ e ∷ ys)) rises)))
      (before xs e ys (sorted_tail nat_cmp x.0 (keys_of (xs ++ e ∷ ys)) rises))

  -- the next entry of a map comes after those that came
  pub next_comes : (all xs rest ys new : List (ℕ × X)) (number : ℕ) (x : X) → IsStrictlySortedBy nat_cmp (keys_of all) → xs ++ rest ≡ all → rest ≡ (number, x) ∷ ys
      → new ≡ insert_entry nat_cmp xs number x → new ++ ys ≡ all
  next_comes all xs rest ys new number x rises whole next inserted =
      let cut : xs ++ (number, x) ∷ ys ≡ all = ap (λ (es : List (ℕ × X)). xs ++ es) (sym next) ∙ whole in
      ap (λ (es : List (ℕ × X)). es ++ ys)
      (inserted ∙ insert_entry-last number x xs (before xs (number, x) ys (subst (λ (es : List (ℕ × X)). IsStrictlySortedBy nat_cmp (keys_of es)) (sym cut) rises)))
      ∙ append_assoc xs ((number, x) ∷ []) ys ∙ cut
