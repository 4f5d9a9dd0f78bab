-- The lines in front of the rest are played, at first none, and then one more each time.
use Rattle.ob_journal.proofs.SoFar.{at_first, one_more}
use Rattle.ob_journal.proofs.check.check_lines.Goals as goal

pub loop-line-init : goal.loop-line-init
loop-line-init c = at_first c.args.header c.args.lines.now c.in-Ok.ensures.0 c.in-Ok.ensures.1 c.in-Ok.replay c.in-Ok.ensures.2

pub loop-line-preserved : goal.loop-line-preserved
loop-line-preserved c =
    one_more c.args.header c.args.lines.now c.loop-line.replay c.loop-line.rest.now c.loop-line.number c.loop-line.invariant c.in-Some.line.now c.in-Some.behind.now c.in-Some.ensures.found c.in-Some.ensures.shorter c.in-Ok-play.next
    c.in-Ok-play.ensures.played
