-- The lines of a script, from its front.
use Rattle.std.proofs.Common.{◌≡◌, ℕ, ◌<◌, List, [], ◌∷◌, ◌++◌, length, refl, ap, arith}
use Rattle.std.proofs.lemmas.Bool.{ne_eqb}
use Rattle.std.proofs.lemmas.List.{length-append}
use Rattle.ob_parts.specs.Text.{Lacks}
use Rattle.ob_lines.specs.Lines.{lines_of, onto_first_line}

-- the bytes before the first LF are the first line
pub lines_of-line : (line rest : List ℕ) → Lacks 0x0A line → lines_of (line ++ (0x0A ∷ rest)) ≡ line ∷ lines_of rest
lines_of-line [] rest l = refl
lines_of-line (c ∷ line) rest l = rw (ne_eqb c 0x0A l.0, lines_of-line line rest l.1) refl

-- bytes without LF are one line
pub lines_of-last : (c : ℕ) (line : List ℕ) → Lacks 0x0A (c ∷ line) → lines_of (c ∷ line) ≡ (c ∷ line) ∷ []
lines_of-last c [] l = rw (ne_eqb c 0x0A l.0) refl
lines_of-last c (d ∷ line) l = rw (ne_eqb c 0x0A l.0) (ap (onto_first_line c) (lines_of-last d line l.1))

pub lines_of-whole : (line : List ℕ) → (length line ≡ 0 → ⊥) → Lacks 0x0A line → lines_of line ≡ line ∷ []
lines_of-whole [] some l = absurd (some refl)
lines_of-whole (c ∷ line) some l = lines_of-last c line l

-- the rest is shorter than the whole
pub rest_shorter : (bytes line rest : List ℕ) (m : ℕ) → bytes ≡ line ++ (m ∷ rest) → length rest < length bytes
rest_shorter bytes line rest m e = omega (arith, ap length e, length-append line (m ∷ rest))
