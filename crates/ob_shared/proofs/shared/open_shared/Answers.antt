-- A namespace that was opened has seats in range.
use Rattle.std.proofs.Common.{◌≡◌, Result, Ok, Err, refl}
use Rattle.ob_shared.proofs.shared.open_shared.Goals as goal

never : {A E Goal : Type 0} (r : Result A E) (x : A) (e : E) → r ≡ Ok x → r ≡ Err e → Goal
never (Ok y) x e is same = cc
never (Err f) x e is same = cc

pub returns-clause-seats : goal.returns-clause-seats
returns-clause-seats g c = λ out. never (Ok (c.in_ok-locked.locked, c.in_ok-locked.passes)) _ _ refl (c.in_ok-locked.ensures.seats out)
