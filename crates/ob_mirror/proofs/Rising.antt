-- Lists of rows by rising stamps, of which one has all rows of the other.
use Rattle.std.proofs.Common.{◌≡◌, zero, suc, ◌<◌, ◌≤◌, List, [], ◌∷◌, length, All, refl, ap, sym, arith}
use Rattle.std.specs.Prelude.{AllPairs, Contains}
use Rattle.std.proofs.lemmas.List.Elements.{All-nil, All-cons, All-head, All-tail, All-contains}
use Rattle.ob_model.specs.declared.state.Row.{Row}
use Rattle.ob_model.proofs.Sorted.{pairs_head, pairs_tail}

-- what is among a list is its first, or among the others
pub among_cons : {X : Type 0} (A : Type 0) (x y : X) (xs : List X) → Contains (x ∷ xs) y → (x ≡ y → A) → (Contains xs y → A) → A
among_cons A x y xs (zero, within, at) first others = first at
among_cons A x y xs (suc k, within, at) first others = others (k, omega (arith, within), at)

abbrev pub Earlier : Row → Row → Type 0
Earlier a b = a.stamp < b.stamp

not_among_none : (x : Row) → Contains [] x → ⊥
not_among_none x (k, within, at) = absurd (omega (arith, within))

-- of rows that come after one, none is it
others : (x y : Row) (ys zs : List Row) → y ≡ x → All (Earlier x) zs → All (Contains (y ∷ ys)) zs → All (Contains ys) zs
others x y ys [] same later among = All-nil (Contains ys)
others x y ys (z ∷ zs) same later among =
    All-cons (Contains ys) z zs
    (among_cons (Contains ys z) y z ys (All-head (Contains (y ∷ ys)) z zs among)
    (λ here. let less : x.stamp < z.stamp = All-head (Earlier x) z zs later in absurd (omega (arith, less, ap (λ (r : Row). r.stamp) same, ap (λ (r : Row). r.stamp) here)))
    (λ there. there))
    (others x y ys zs same (All-tail (Earlier x) z zs later) (All-tail (Contains (y ∷ ys)) z zs among))

-- of rows that come after one which is no first, none is the first
after_first : (x y : Row) (ys zs : List Row) → y.stamp < x.stamp → All (Earlier x) zs → All (Contains (y ∷ ys)) zs → All (Contains ys) zs
after_first x y ys [] first later among = All-nil (Contains ys)
after_first x y ys (z ∷ zs) first later among =
    All-cons (Contains ys) z zs
    (among_cons (Contains ys z) y z ys (All-head (Contains (y ∷ ys)) z zs among)
    (λ here. let less : x.stamp < z.stamp = All-head (Earlier x) z zs later in absurd (omega (arith, less, first, ap (λ (r : Row). r.stamp) here)))
    (λ there. there))
    (after_first x y ys zs first (All-tail (Earlier x) z zs later) (All-tail (Contains (y ∷ ys)) z zs among))

pub no_more : (xs ys : List Row) → AllPairs Earlier xs → AllPairs Earlier ys → All (Contains ys) xs → length xs ≤ length ys
no_more [] ys rise climb among = omega arith
no_more (x ∷ xs) [] rise climb among = absurd (not_among_none x (All-head (Contains []) x xs among))
no_more (x ∷ xs) (y ∷ ys) rise climb among =
    among_cons (length (x ∷ xs) ≤ length (y ∷ ys)) y x ys (All-head (Contains (y ∷ ys)) x xs among)
    (λ here. let more : length xs ≤ length ys =
    no_more xs ys (pairs_tail Earlier x xs rise) (pairs_tail Earlier y ys climb) (others x y ys xs here (pairs_head Earlier x xs rise) (All-tail (Contains (y ∷ ys)) x xs among)) in
    omega (arith, more))
    (λ there. let more : length (x ∷ xs) ≤ length ys =
    no_more (x ∷ xs) ys rise (pairs_tail Earlier y ys climb)
    (All-cons (Contains ys) x xs there (after_first x y ys xs (All-contains (Earlier y) ys x (pairs_head Earlier y ys climb) there) (pairs_head Earlier x xs rise) (All-tail (Contains (y ∷ ys)) x xs among))) in
    omega (arith, more))

-- as many of them are all of them
pub as_many : (xs ys : List Row) → AllPairs Earlier xs → AllPairs Earlier ys → All (Contains ys) xs → length xs ≡ length ys → xs ≡ ys
as_many [] [] rise climb among same = refl
as_many [] (y ∷ ys) rise climb among same = absurd (omega (arith, same))
as_many (x ∷ xs) [] rise climb among same = absurd (omega (arith, same))
as_many (x ∷ xs) (y ∷ ys) rise climb among same =
    among_cons (x ∷ xs ≡ y ∷ ys) y x ys (All-head (Contains (y ∷ ys)) x xs among)
    (λ here. let rest : xs ≡ ys =
    as_many xs ys (pairs_tail Earlier x xs rise) (pairs_tail Earlier y ys climb) (others x y ys xs here (pairs_head Earlier x xs rise) (All-tail (Contains (y ∷ ys)) x xs among)) (omega (arith, same)) in
    (λ i. sym here i ∷ rest i))
    (λ there. let more : length (x ∷ xs) ≤ length ys =
    no_more (x ∷ xs) ys rise (pairs_tail Earlier y ys climb)
    (All-cons (Contains ys) x xs there (after_first x y ys xs (All-contains (Earlier y) ys x (pairs_head Earlier y ys climb) there) (pairs_head Earlier x xs rise) (All-tail (Contains (y ∷ ys)) x xs among))) in
    absurd (omega (arith, more, same)))

-- each has all of the other's
pub all_of_both : (xs ys : List Row) → AllPairs Earlier xs → AllPairs Earlier ys → All (Contains ys) xs → All (Contains xs) ys → xs ≡ ys
all_of_both xs ys rise climb among back =
    as_many xs ys rise climb among (let more = no_more xs ys rise climb among in let less = no_more ys xs climb rise back in omega (arith, more, less))
