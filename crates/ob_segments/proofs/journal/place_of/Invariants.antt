use Rattle.std.proofs.Common.{◌≤◌, ◌<◌, ◌-◌, length, map, take}
use Rattle.std.specs.Arc.{arc_value}
use Rattle.ob_entries.specs.Segments.{joined}
use Rattle.ob_segments.proofs.journal.place_of.Given as goal

abbrev pub invariant-loop-high : goal.invariant-loop-high
invariant-loop-high g l =
    record {
      apart : l.low < l.high;
      within : l.high ≤ length l.sealed;
      after : length (joined (take l.low (map arc_value l.sealed))) < l.number;
      up_to : l.number ≤ length (joined (take l.high (map arc_value l.sealed)));
    }

abbrev pub decreases-loop-high : goal.decreases-loop-high
decreases-loop-high g l = l.high - l.low
