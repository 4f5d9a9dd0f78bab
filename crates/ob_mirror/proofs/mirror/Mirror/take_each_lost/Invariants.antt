-- Each row of a stamp that was looked at is one of the state's.
use Rattle.std.proofs.Common.{◌≡◌, ℕ, ◌<◌, All, Contains, get_or}
use Rattle.ob_mirror.specs.Mirrored.{Follows, LeadsOn}
use Rattle.ob_mirror.proofs.mirror.Mirror.take_each_lost.Given as goal

abbrev pub invariant-loop-stamp : goal.invariant-loop-stamp
invariant-loop-stamp g l =
    record {
      follows : Follows l.self.rows l.self.next l.core;
      listed : LeadsOn l.fn.self l.self;
      next : l.self.next ≡ l.fn.self.next;
      fewer : All (Contains l.fn.self.rows) l.self.rows;
      own : (k : ℕ) → k < l.stamp-index → All (λ row. row.stamp ≡ get_or l.stamps k 0 → Contains l.core.rows row) l.self.rows;
    }
