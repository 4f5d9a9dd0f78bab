-- Each case by computing.
use Rattle.std.proofs.Common.{arith, refl}
use Rattle.ob_model.proofs.examples.calls_are_told.Goals as goal

pub returns-clause-calls_of_made_and_closed : goal.returns-clause-calls_of_made_and_closed
returns-clause-calls_of_made_and_closed c = (
  (refl, refl, (4, ((1, refl, omega arith, omega arith), refl), refl, refl), (refl, refl, (refl, refl), (refl, refl, (refl, refl), tt))),
  refl,
  refl,
  refl,
)

pub returns-clause-calls_of_two_closes : goal.returns-clause-calls_of_two_closes
returns-clause-calls_of_two_closes c = ((refl, refl, (refl, refl), (refl, refl, (refl, refl), tt)), refl, refl)
