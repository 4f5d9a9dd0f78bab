-- After one more lost row the mirror still follows the core.
use Rattle.std.proofs.Common.{◌≡◌}
use Rattle.ob_mirror.specs.Mirrored.{Follows, LeadsOn}
use Rattle.ob_mirror.proofs.mirror.Mirror.take_hinted.Given as goal

abbrev pub invariant-loop-removed : goal.invariant-loop-removed
invariant-loop-removed g l = record { follows : Follows l.self.rows l.self.next l.core; listed : LeadsOn l.fn.self l.self; next : l.self.next ≡ l.fn.self.next }
