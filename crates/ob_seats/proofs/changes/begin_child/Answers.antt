-- Room changes no variable, so the child's variables were made for the variables as they are.
use Rattle.std.proofs.Common.{sym, subst}
use Rattle.ob_requests.specs.Tables.{CanBegin}
use Rattle.ob_requests.specs.Variables.{Variables}
use Rattle.ob_seats.proofs.changes.begin_child.Goals as goal

pub begin-requires-clause-begins : goal.begin-requires-clause-begins
begin-requires-clause-begins c =
    subst (λ (w : Variables). CanBegin w c.in-Process.child c.in_ok-own-in-Process.own) (sym c.in_ok-room_for_variables-in-Process.ensures.same) c.in_ok-own-in-Process.ensures.begins
