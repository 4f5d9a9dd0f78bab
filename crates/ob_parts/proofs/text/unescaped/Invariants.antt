use Rattle.std.proofs.Common.{List, ℕ, ◌+◌, ◌≤◌, ◌++◌, length}
use Rattle.std.specs.Vec.{vec_len, vec_capacity}
use Rattle.ob_parts.specs.Text.{IsText, Spells}
use Rattle.ob_parts.proofs.text.unescaped.Given as goal

-- the rest is a text, and whatever it spells stands behind the bytes so far
pub record IsDecoded (text rest : List ℕ) (bytes : List ℕ) : Type 0 where
  pub whole : IsText rest
  pub onward : (more : List ℕ) → Spells rest more → Spells text (bytes ++ more)

-- and there is room for them
abbrev pub invariant-loop-byte : goal.invariant-loop-byte
invariant-loop-byte l = IsDecoded l.text l.rest l.bytes.items × (vec_len l.bytes + length l.rest ≤ vec_capacity l.bytes)

abbrev pub decreases-loop-byte : goal.decreases-loop-byte
decreases-loop-byte l = length l.rest
