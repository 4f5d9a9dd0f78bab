-- The variable is found in its slot.
use Rattle.ob_requests.proofs.table.set.Goals as goal

pub returns-in-Some : goal.returns-in-Some
returns-in-Some g c = λ none. c.set_at.ensures none c.args.variable.now c.in-Some.ensures
