-- A number without a remainder is four times its quarter.
use Rattle.std.proofs.Common.{◌≡◌, ◌<◌, ◌*◌, ◌/◌, refl, arith}
use Rattle.ob_journal.proofs.choice.handle_value.Goals as goal

pub returns-clause-value : goal.returns-clause-value
returns-clause-value c =
    let quarter = c.args.number / 4 in
    let whole : c.args.number ≡ 4 * quarter = omega (arith, c.if-number-ne0.false) in
    let some : 0 < quarter = omega (arith, whole, c.if-number-eq0.false) in
    (refl, (quarter, whole, some, c.if-number-gt262140.false))
