-- A text with no escape spells itself.
use Rattle.std.proofs.Common.{◌≡◌, ℕ, List, Result, Ok, Err, IfOk}
use Rattle.ob_parts.specs.Text.{Spells}
use Rattle.ob_parts.proofs.Spelled.{spells_itself}
use Rattle.ob_parts.proofs.text.decode.Goals as goal

copied : {E : Type 0} (text : List ℕ) (r : Result (List ℕ) E) → Spells text text → IfOk r (λ bytes. bytes ≡ text) → IfOk r (λ bytes. Spells text bytes)
copied text (Ok bytes) spells e = rw e spells
copied text (Err none) spells e = tt

pub returns-in-None : goal.returns-in-None
returns-in-None c = copied c.args.text.now c.from_slice.result (spells_itself c.args.text.now c.requires.0 c.in-None.ensures.none c.requires.1) c.from_slice.ensures.copy
