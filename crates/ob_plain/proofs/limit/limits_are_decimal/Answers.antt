use Rattle.ob_plain.proofs.Decimals.{said_in_decimal, decimal_says}
use Rattle.ob_plain.proofs.limit.limits_are_decimal.Goals as goal

pub returns : goal.returns
returns c = record { said = said_in_decimal; says = decimal_says }
