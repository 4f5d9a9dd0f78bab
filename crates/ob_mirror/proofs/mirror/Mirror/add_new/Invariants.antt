-- The rows of the objects that were looked at are there.
use Rattle.std.proofs.Common.{◌-◌}
use Rattle.ob_mirror.specs.Mirrored.{Follows, LeadsOn}
use Rattle.ob_mirror.proofs.mirror.Mirror.add_new.Given as goal

abbrev pub invariant-loop-id : goal.invariant-loop-id
invariant-loop-id g l = record { follows : Follows l.self.rows l.self.next l.core; listed : LeadsOn l.fn.self l.self }

abbrev pub decreases-loop-id : goal.decreases-loop-id
decreases-loop-id g l = l.core.next_id - l.self.next
