-- The rest that is left is shorter at each step.
use Rattle.ob_types.proofs.Runs.{fewer_left}
use Rattle.ob_types.proofs.run.run_parse.Goals as goal

pub loop-step-smaller : goal.loop-step-smaller
loop-step-smaller g c = fewer_left c.loop-step.step c.answered-step-in-Onward.result c.in-Onward.next c.in-Onward.left c.in-Onward.is c.answered-step-in-Onward.ensures.shorter
