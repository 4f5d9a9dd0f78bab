-- Lines: the lines of a script.
--
-- Source: this profile.
use Rattle.std.specs.Prelude.{◌≡◌, ◌≢◌, ◌⊎◌, ℕ, ◌==◌, if◌then◌else◌, List, [], ◌∷◌, ◌++◌}
use Rattle.ob_parts.specs.Text.{Lacks}

-- the byte that ends a line, LF
abbrev pub line_end : ℕ
line_end = 0x0A

-- a byte in front of the first of these lines, or as the only line where there is none
abbrev pub onto_first_line : ℕ → List (List ℕ) → List (List ℕ)
onto_first_line b [] = (b ∷ []) ∷ []
onto_first_line b (line ∷ lines) = (b ∷ line) ∷ lines

-- The lines of a script, each without its LF. The bytes after the last LF are a line where there are any:
-- so the last LF may be missing, and an empty script has no line.
abbrev pub lines_of : List ℕ → List (List ℕ)
lines_of [] = []
lines_of (b ∷ bytes) = if b == line_end then [] ∷ lines_of bytes else onto_first_line b (lines_of bytes)

-- the first line ends at its LF, or at the end of the bytes; then it has a byte
pub record IsFirstLine (bytes line rest : List ℕ) : Type 0 where
  pub lacks : Lacks line_end line
  pub ends : (bytes ≡ line ++ line_end ∷ rest) ⊎ ((bytes ≡ line) × (rest ≡ []) × (line ≢ []))
