-- A reply changes variables as its step changes handles: what it gives is new, and what it takes is closed.
use Rattle.ob_requests.proofs.AlikeVariables.{variables_stay_alike}
use Rattle.ob_requests.proofs.laws.replies_leave_alike_variables.Goals as goal

pub returns : goal.returns
returns g c = variables_stay_alike
