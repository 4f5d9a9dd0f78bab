-- Bytes that all stand for themselves are a text that spells them.
use Rattle.std.proofs.Common.{refl}
use Rattle.ob_parts.proofs.Spelled.{plain_spells}
use Rattle.ob_parts.proofs.text.is_text.Goals as goal

pub returns-then-are_plain : goal.returns-then-are_plain
returns-then-are_plain c = ((λ _. (c.args.bytes.now, plain_spells c.args.bytes.now (c.are_plain.ensures.0 c.if-are_plain.true))), (λ _. refl))
