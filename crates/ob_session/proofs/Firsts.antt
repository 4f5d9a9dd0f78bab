-- The first line of a reader's bytes.
use Rattle.std.proofs.Common.{◌≡◌, ◌∙◌, ℕ, suc, ◌-◌, ◌<◌, Bool, true, false, cond, eqb, ◌==◌, ◌&&◌, List, [], ◌∷◌, ◌++◌, length, length-append, take, drop, Option, None, Some, IfSome, refl, ap, sym, subst, true≢false, eq-eqb, ne_eqb, eqb-true, arith}
use Rattle.std.specs.List.{ends_with}
use Rattle.std.specs.Cmp.Lexicographic.{pointwise}
use Rattle.std.proofs.Math.Seq.{take-append_seam}
use Rattle.std.specs.Io.BufRead.{take_through, drop_through, DropsThrough}
use Rattle.ob_lines.specs.Lines.{line_end, lines_of, onto_first_line}
use Rattle.ob_session.specs.Taken.{TakesLine}

-- the bytes up to the first LF, without it
abbrev pub before_end : List ℕ → List ℕ
before_end [] = []
before_end (b ∷ bytes) = cond (b == line_end) [] (b ∷ before_end bytes)

-- the lines of some bytes are those before the first LF, and the lines of those after it
first_line : (b : ℕ) (bytes : List ℕ) → lines_of (b ∷ bytes) ≡ before_end (b ∷ bytes) ∷ lines_of (drop_through line_end (b ∷ bytes))
first_line b [] = go (b == line_end)
  where
    go : (is : Bool) → cond is ([] ∷ []) (onto_first_line b []) ≡ cond is [] (b ∷ []) ∷ lines_of (cond is [] [])
    go true = refl
    go false = refl
first_line b (c ∷ rest) = go (b == line_end) (first_line c rest)
  where
    go : (is : Bool) → lines_of (c ∷ rest) ≡ before_end (c ∷ rest) ∷ lines_of (drop_through line_end (c ∷ rest))
        → cond is ([] ∷ lines_of (c ∷ rest)) (onto_first_line b (lines_of (c ∷ rest)))
        ≡ cond is [] (b ∷ before_end (c ∷ rest)) ∷ lines_of (cond is (c ∷ rest) (drop_through line_end (c ∷ rest)))
    go true same = refl
    go false same = ap (onto_first_line b) same

-- the last byte is an LF
abbrev pub has_end : List ℕ → Bool
has_end bytes = ends_with eqb bytes (line_end ∷ [])

-- Of bytes that were read through the first LF the last one is an LF, and the others are those before it; or none is, and they are all.
abbrev Ends : (is : Bool) → List ℕ → List ℕ → Type 0
Ends true all front = all ≡ front ++ line_end ∷ []
Ends false all front = all ≡ front

-- a byte that is no LF, before others
has_end_behind : (b : ℕ) (bytes : List ℕ) (is : Bool) → (b == line_end) ≡ false → has_end bytes ≡ is → has_end (b ∷ bytes) ≡ is
has_end_behind b [] is other e = ap (λ x. x && true) (ne_eqb line_end b (λ same. true≢false (sym (eq-eqb b line_end (sym same)) ∙ other))) ∙ e
has_end_behind b (c ∷ bytes) is other e =
    let fewer : length (b ∷ c ∷ bytes) - 1 ≡ suc (length (c ∷ bytes) - 1) = omega arith in
    ap (λ k. pointwise eqb (line_end ∷ []) (drop k (b ∷ c ∷ bytes))) fewer ∙ e

ends_so : (bytes : List ℕ) → (is : Bool) × Ends is (take_through line_end bytes) (before_end bytes) × (has_end (take_through line_end bytes) ≡ is)
ends_so [] = (false, refl, refl)
ends_so (b ∷ bytes) = go (b == line_end) refl (ends_so bytes)
  where
    go : (here : Bool) → (b == line_end) ≡ here → (is : Bool) × Ends is (take_through line_end bytes) (before_end bytes) × (has_end (take_through line_end bytes) ≡ is)
        → (is : Bool) × Ends is (cond here (b ∷ []) (b ∷ take_through line_end bytes)) (cond here [] (b ∷ before_end bytes)) × (has_end (cond here (b ∷ []) (b ∷ take_through line_end bytes)) ≡ is)
    go true e rest =
        let same = eqb-true b line_end e in
        (true, ap (λ x. x ∷ []) same, ap (λ x. has_end (x ∷ [])) same)
    go false e (true, rest, ends) = (true, ap (λ l. b ∷ l) rest, has_end_behind b (take_through line_end bytes) true e ends)
    go false e (false, rest, ends) = (false, ap (λ l. b ∷ l) rest, has_end_behind b (take_through line_end bytes) false e ends)

-- a list without its last byte
front_of : (front : List ℕ) (b : ℕ) → take (length (front ++ b ∷ []) - 1) (front ++ b ∷ []) ≡ front
front_of front b = ap (λ n. take n (front ++ b ∷ [])) (omega (arith, length-append front (b ∷ []))) ∙ take-append_seam front (b ∷ [])

-- what was read, with an LF or without one
line_with : (bytes read : List ℕ) → read ≡ take_through line_end bytes → has_end read ≡ true → take (length read - 1) read ≡ before_end bytes
line_with bytes read is ends = go (ends_so bytes)
  where
    go : (at : Bool) × Ends at (take_through line_end bytes) (before_end bytes) × (has_end (take_through line_end bytes) ≡ at) → take (length read - 1) read ≡ before_end bytes
    go (true, all, e) = ap (λ l. take (length l - 1) l) (is ∙ all) ∙ front_of (before_end bytes) line_end
    go (false, all, e) = absurd (true≢false (sym ends ∙ ap has_end is ∙ e))

line_without : (bytes read : List ℕ) → read ≡ take_through line_end bytes → has_end read ≡ false → read ≡ before_end bytes
line_without bytes read is ends = go (ends_so bytes)
  where
    go : (at : Bool) × Ends at (take_through line_end bytes) (before_end bytes) × (has_end (take_through line_end bytes) ≡ at) → read ≡ before_end bytes
    go (true, all, e) = absurd (true≢false (sym e ∙ sym (ap has_end is) ∙ ends))
    go (false, all, e) = is ∙ all

-- a line is taken that is what was read up to the first LF
taken_so : (had new : Option (List ℕ)) (read line : List ℕ) → 0 < length read → IfSome had (λ bytes. read ≡ [] ++ take_through line_end bytes) → DropsThrough had new line_end
    → ((bytes : List ℕ) → read ≡ take_through line_end bytes → line ≡ before_end bytes) → TakesLine true had new line
taken_so None new read line some is dropped so = tt
taken_so (Some []) new read line some is dropped so = absurd (omega (arith, some, ap length is))
taken_so (Some (b ∷ bytes)) new read line some is dropped so =
    (drop_through line_end (b ∷ bytes), dropped, first_line b bytes ∙ ap (λ l. l ∷ lines_of (drop_through line_end (b ∷ bytes))) (sym (so (b ∷ bytes) is)))

pub taken_with : (had new : Option (List ℕ)) (cleared read line : List ℕ) → 0 < length read → cleared ≡ [] → IfSome had (λ bytes. read ≡ cleared ++ take_through line_end bytes) → DropsThrough had new line_end
    → has_end read ≡ true → line ≡ take (length read - 1) read → TakesLine true had new line
taken_with had new cleared read line some empty is dropped ends cut =
    taken_so had new read line some (subst (λ l. IfSome had (λ bytes. read ≡ l ++ take_through line_end bytes)) empty is) dropped (λ bytes same. cut ∙ line_with bytes read same ends)

pub taken_without : (had new : Option (List ℕ)) (cleared read : List ℕ) → 0 < length read → cleared ≡ [] → IfSome had (λ bytes. read ≡ cleared ++ take_through line_end bytes) → DropsThrough had new line_end
    → has_end read ≡ false → TakesLine true had new read
taken_without had new cleared read some empty is dropped ends =
    taken_so had new read read some (subst (λ l. IfSome had (λ bytes. read ≡ l ++ take_through line_end bytes)) empty is) dropped (λ bytes same. line_without bytes read same ends)
