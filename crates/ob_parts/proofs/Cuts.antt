-- Lists that are cut at their first byte of a value.
use Rattle.std.proofs.Common.{◌≡◌, ◌≢◌, ℕ, ◌+◌, ◌<◌, List, [], ◌∷◌, ◌++◌, length, take, drop, get_or, refl, arith, eqb, Option, Some, None, true, false, sym, ap, ◌∙◌, take-append-drop}
use Rattle.std.specs.Option.{MatchOption, IfSome, IfNone}
use Rattle.std.specs.Borrow.{Bor}
use Rattle.std.specs.Cmp.Lexicographic.{pointwise}
use Rattle.std.proofs.lemmas.Slice.Eq.{strip_prefix_is}
use Rattle.std.proofs.lemmas.Bool.Decides.{Decides-eqb}
use Rattle.std.proofs.lemmas.List.{get_or-take, length-take, drop_more}
use Rattle.std.proofs.lemmas.List.Elements.{recursion_from_All, All-from_get_or}
use Rattle.std.proofs.lemmas.Bool.{eqb-true, eq-eqb}
use Rattle.memchr.specs.Find.{IsFirstByte, is_byte}
use Rattle.ob_parts.specs.Text.{Lacks}

-- two cuts of one list at its first byte of a value are one cut
pub cut_alike : (m : ℕ) (a b x y : List ℕ) → Lacks m a → Lacks m x → a ++ (m ∷ b) ≡ x ++ (m ∷ y) → (a ≡ x) × (b ≡ y)
cut_alike m [] b [] y la lx e = (refl, cc)
cut_alike m [] b (c ∷ x) y la lx e = let h : c ≡ m = cc in absurd (lx.0 h)
cut_alike m (c ∷ a) b [] y la lx e = let h : c ≡ m = cc in absurd (la.0 h)
cut_alike m (c ∷ a) b (d ∷ x) y la lx e =
    let tails : a ++ (m ∷ b) ≡ x ++ (m ∷ y) = cc in
    let same : (a ≡ x) × (b ≡ y) = cut_alike m a b x y la.1 lx.1 tails in
    let heads : c ≡ d = cc in
    (cc, same.1)

-- a list with no byte of the value has no cut there
pub lacks_no_cut : (m : ℕ) (bytes a b : List ℕ) → Lacks m bytes → bytes ≡ a ++ (m ∷ b) → ⊥
lacks_no_cut m [] [] b l e = cc
lacks_no_cut m [] (c ∷ a) b l e = cc
lacks_no_cut m (c ∷ bytes) [] b l e = let h : c ≡ m = cc in l.0 h
lacks_no_cut m (c ∷ bytes) (d ∷ a) b l e = let t : bytes ≡ a ++ (m ∷ b) = cc in lacks_no_cut m bytes a b l.1 t

-- a cut at one byte is no cut at another, where neither front has the other's byte
pub cuts_apart : (m n : ℕ) (a b x y : List ℕ) → m ≢ n → Lacks n a → Lacks m x → a ++ (m ∷ b) ≡ x ++ (n ∷ y) → ⊥
cuts_apart m n [] b [] y d la lx e = let h : m ≡ n = cc in d h
cuts_apart m n [] b (c ∷ x) y d la lx e = let h : c ≡ m = cc in lx.0 h
cuts_apart m n (c ∷ a) b [] y d la lx e = let h : c ≡ n = cc in la.0 h
cuts_apart m n (c ∷ a) b (c' ∷ x) y d la lx e =
    let tails : a ++ (m ∷ b) ≡ x ++ (n ∷ y) = cc in cuts_apart m n a b x y d la.1 lx.1 tails

-- a front of which no byte is the value has none of it
lacks_up_to : (m : ℕ) (xs : List ℕ) (i : ℕ) → ((k : ℕ) → k < i → get_or xs k 0 ≢ m) → Lacks m (take i xs)
lacks_up_to m xs i none =
    recursion_from_All (λ c. c ≢ m) _ (All-from_get_or (λ c. c ≢ m) _ 0 here)
  where
    below : (k : ℕ) → k < length (take i xs) → k < i
    below k l = omega (arith, l, length-take i xs)

    here : (k : ℕ) → k < length (take i xs) → get_or (take i xs) k 0 ≢ m
    here k l e = none k (below k l) (sym (get_or-take i xs k 0 (below k l)) ∙ e)

-- at the place of the first byte of a value a list is cut
pub cut_at_first : (m : ℕ) (xs : List ℕ) (i : ℕ) → IsFirstByte (is_byte m) xs (Some i)
    → (xs ≡ take i xs ++ (m ∷ drop (i + 1) xs)) × Lacks m (take i xs)
cut_at_first m xs i (first, here) = (
  sym (take-append-drop i xs)
      ∙ ap (λ z. take i xs ++ z) (drop_more xs i 0 first.high ∙ ap (λ b. b ∷ drop (i + 1) xs) (eqb-true (get_or xs i 0) m here)),
  lacks_up_to m xs i (λ k l e. first.before k (omega arith) l (eq-eqb (get_or xs k 0) m e)),
)

-- a list with no place of the value lacks it
pub lacks_from_none : (m : ℕ) (xs : List ℕ) → IsFirstByte (is_byte m) xs None → Lacks m xs
lacks_from_none m xs none =
    recursion_from_All (λ c. c ≢ m) xs (All-from_get_or (λ c. c ≢ m) xs 0 (λ k l e. none k (omega arith) l (eq-eqb (get_or xs k 0) m e)))

abbrev StripsFront : List ℕ → List ℕ → Option (Bor (List ℕ)) → Type 0
StripsFront s p r =
    MatchOption r (pointwise eqb (take (length p) s) p ≡ false)
    (λ x. (pointwise eqb (take (length p) s) p ≡ true) × (x.now ≡ drop (length p) s) × (length x.now + length p ≡ length s))

-- what `strip_prefix` says, for each of its answers
pub behind_found : (s p : List ℕ) (r : Option (Bor (List ℕ))) → StripsFront s p r → IfSome r (λ x. s ≡ p ++ x.now)
behind_found s p None m = tt
behind_found s p (Some x) m = strip_prefix_is Decides-eqb s p (Some x) m

pub behind_none : (s p : List ℕ) (r : Option (Bor (List ℕ))) → StripsFront s p r → IfNone r ((rest : List ℕ) → s ≢ p ++ rest)
behind_none s p None m = strip_prefix_is Decides-eqb s p None m
behind_none s p (Some x) m = tt

-- a fact of `None` from another
pub IfNone-map : {T : Type 0} (r : Option T) (P Q : Type 0) → (P → Q) → IfNone r P → IfNone r Q
IfNone-map None P Q f p = f p
IfNone-map (Some x) P Q f p = tt

-- a fact of `Some` from two others
pub IfSome-join : {T : Type 0} (r : Option T) (P Q R : T → Type 0) → ((x : T) → P x → Q x → R x) → IfSome r P → IfSome r Q → IfSome r R
IfSome-join None P Q R f p q = tt
IfSome-join (Some x) P Q R f p q = f x p q
