-- Bytes that stand where flags do, and are none, begin with no flags.
use Rattle.ob_parts.proofs.Readings.{flags_parts}
use Rattle.ob_parts.proofs.parts.take_flags.Goals as goal

pub returns-in_err-attrs-clause-none : goal.returns-in_err-attrs-clause-none
returns-in_err-attrs-clause-none c =
    rw c.from_residual-in_err-attrs.ensures
    (λ a r b. c.in_err-attrs.ensures.none a (flags_parts _ _ _ a r c.in_ok-flags.ensures.found.0 c.in_ok-flags.ensures.found.1 b).0)
