-- Flags and their bits.
use Rattle.std.proofs.Common.{◌≡◌, ℕ, ◌+◌, ◌*◌, ◌^◌, ◌<◌, ◌≤◌, inl, inr, List, [], ◌∷◌, length, refl, ap, arith, Some, codes, eqb, true, false, sym, ◌∙◌, ⊎_elim, take, get_or, zero, suc}
use Rattle.std.proofs.lemmas.Int.Digits.{digits_value-lt, digits_value_more}
use Rattle.std.proofs.lemmas.List.{length-take}
use Rattle.std.proofs.Math.Nat.{pow-le-pow_right}
use Rattle.std.proofs.lemmas.Bool.{both_ways, or_parts, or_cases, eq-eqb, eqb-true}
use Rattle.std.specs.Str.Parse.{AllDigits, digits_value}
use Rattle.std.specs.Char.{digit_value}
use Rattle.std.specs.List.{list_any}
use Rattle.ob_parts.specs.Text.{Lacks}
use Rattle.ob_parts.specs.Flags.{flag_of, IsLetters, IsFlags}

-- a list that `contains` finds no byte in lacks it, and one that it finds it in doesn't
pub lacks_from_test : (m : ℕ) (xs : List ℕ) → list_any (λ y. eqb y m) xs ≡ false → Lacks m xs
lacks_from_test m [] e = tt
lacks_from_test m (x ∷ xs) e =
    let parts : (eqb x m ≡ false) × (list_any (λ y. eqb y m) xs ≡ false) = or_parts _ _ e in
    ((λ h. both_ways _ parts.0 (eq-eqb _ _ h)), lacks_from_test m xs parts.1)

pub test_no_lacks : (m : ℕ) (xs : List ℕ) → list_any (λ y. eqb y m) xs ≡ true → Lacks m xs → ⊥
test_no_lacks m [] e l = both_ways _ refl e
test_no_lacks m (x ∷ xs) e l =
    ⊎_elim (λ h. l.0 (eqb-true _ _ h)) (λ h. test_no_lacks m xs h l.1) (or_cases _ _ e)

-- letters of flags have one set of bits
pub letters_alike : (flags : List ℕ) (a b : ℕ) → IsLetters flags a → IsLetters flags b → a ≡ b
letters_alike [] a b x y = cc
letters_alike (c ∷ cs) a b (f, r, e, l, s, p) (g, q, d, k, t, o) =
    let rest : r ≡ q = letters_alike cs r q s t in
    let head : f ≡ g = cc in
    cc

-- flags have one set of bits
pub flags_alike : (flags : List ℕ) (a b : ℕ) → IsFlags flags a → IsFlags flags b → a ≡ b
flags_alike flags a b (inl p) (inl q) = p.1 ∙ sym q.1
flags_alike flags a b (inl p) (inr (inl q)) = let l : IsLetters (codes "-") b = rw p.0 at q.1 in let e : flag_of 0x2D ≡ Some l.0 = l.2 in cc
flags_alike flags a b (inl p) (inr (inr q)) = let f : flags ≡ codes "-" = p.0 in let e : flags ≡ 0x78 ∷ q.0 = q.1 in cc
flags_alike flags a b (inr (inl p)) (inl q) = let l : IsLetters (codes "-") a = rw q.0 at p.1 in let e : flag_of 0x2D ≡ Some l.0 = l.2 in cc
flags_alike flags a b (inr (inl p)) (inr (inl q)) = letters_alike flags a b p.1 q.1
flags_alike flags a b (inr (inl p)) (inr (inr q)) = let l : IsLetters (0x78 ∷ q.0) a = rw q.1 at p.1 in let e : flag_of 0x78 ≡ Some l.0 = l.2 in cc
flags_alike flags a b (inr (inr q)) (inl p) = let f : flags ≡ codes "-" = p.0 in let e : flags ≡ 0x78 ∷ q.0 = q.1 in cc
flags_alike flags a b (inr (inr q)) (inr (inl p)) = let l : IsLetters (0x78 ∷ q.0) b = rw q.1 at p.1 in let e : flag_of 0x78 ≡ Some l.0 = l.2 in cc
flags_alike flags a b (inr (inr p)) (inr (inr q)) =
    let one : flags ≡ 0x78 ∷ p.0 = p.1 in
    let two : flags ≡ 0x78 ∷ q.0 = q.1 in
    let same : p.0 ≡ q.0 = cc in
    p.5 ∙ (ap (digits_value 16) same ∙ sym q.5)

-- flags have no space
pub flags_lack : (flags : List ℕ) (bits : ℕ) → IsFlags flags bits → Lacks 0x20 flags
flags_lack flags bits (inl p) = rw p.0 ((λ h. omega (arith, h)), tt)
flags_lack flags bits (inr (inl p)) = letters flags bits p.1
  where
    letters : (cs : List ℕ) (n : ℕ) → IsLetters cs n → Lacks 0x20 cs
    letters [] n s = tt
    letters (c ∷ cs) n (f, r, e, l, s, p) =
        ((λ (h : c ≡ 0x20). let bad = rw h at e in (cc)), letters cs r s)
flags_lack flags bits (inr (inr q)) = rw q.1 ((λ h. omega (arith, h)), digits q.0 q.2)
  where
    digits : (cs : List ℕ) → AllDigits 16 cs → Lacks 0x20 cs
    digits [] q = tt
    digits (c ∷ cs) q = ((λ (h : c ≡ 0x20). let bad = rw h at q.0 in omega (arith, bad)), digits cs q.1)

-- each digit of a number's digits is one
pub digit_at : (ds : List ℕ) (i : ℕ) → AllDigits 16 ds → i < length ds → digit_value (get_or ds i 0) < 16
digit_at [] i all l = absurd (omega arith)
digit_at (d ∷ ds) zero all l = all.0
digit_at (d ∷ ds) (suc i) all l = digit_at ds i all.1 (omega arith)

-- so far less than eight digits write less than 2^28
pub digits_small : (ds : List ℕ) (i : ℕ) → i < length ds → length ds ≤ 8 → AllDigits 16 (take i ds) → digits_value 16 (take i ds) < 2 ^ 28
digits_small ds i l short all =
    let value : digits_value 16 (take i ds) < 16 ^ length (take i ds) = digits_value-lt 16 _ all in
    let least : length (take i ds) ≤ 7 = omega (arith, length-take i ds) in
    let power : 16 ^ length (take i ds) ≤ 16 ^ 7 = pow-le-pow_right (omega arith) least in
    omega (arith, value, power)

-- one digit more
pub hex_more : (ds : List ℕ) (i bits digit : ℕ) → i < length ds → bits ≡ digits_value 16 (take i ds) → digit ≡ digit_value (get_or ds i 0)
    → bits * 16 + digit ≡ digits_value 16 (take (i + 1) ds)
hex_more ds i bits digit l b d = let more = digits_value_more 16 ds i l in rw (b, d) (sym more)
