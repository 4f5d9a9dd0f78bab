-- A namespace of too few or too many seats was refused before.
use Rattle.std.proofs.Common.{⊎_elim, arith}
use Rattle.ob_locked.proofs.opened.open_locked.Goals as goal

pub returns-in-Err-clause-seats : goal.returns-in-Err-clause-seats
returns-in-Err-clause-seats g c = λ either. absurd (⊎_elim (λ none. c.if-seats-eq0.false none) (λ many. omega (arith, many, c.if-seats-gt-MOST_SEATS.false)) either)
