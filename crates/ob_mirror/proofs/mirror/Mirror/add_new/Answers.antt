-- One object more was looked at, until none is left.
use Rattle.std.proofs.Common.{arith}
use Rattle.ob_mirror.proofs.Following.{all_looked_at}
use Rattle.ob_mirror.proofs.Leading.{leads_on}
use Rattle.ob_mirror.proofs.mirror.Mirror.add_new.Goals as goal

pub loop-id-init : goal.loop-id-init
loop-id-init g c = record { follows = c.requires.follows; listed = λ base led. led }

pub loop-id-preserved : goal.loop-id-preserved
loop-id-preserved g c =
    record { follows = c.look_at.ensures.follows; listed = leads_on c.args.self.now c.loop-id.self c.look_at.new.self c.loop-id.invariant.listed c.look_at.ensures.listed }

pub loop-id-smaller : goal.loop-id-smaller
loop-id-smaller g c = omega (arith, c.in-Some.ensures.1, c.in_ok-look_at.ensures.onward, c.look_at.ensures.follows.drawn)

pub returns-clause-all : goal.returns-clause-all
returns-clause-all g c = all_looked_at c.args.core.now c.state_is_sound.ensures c.requires.order c.loop-id.self.rows c.loop-id.self.next c.in_default.ensures
