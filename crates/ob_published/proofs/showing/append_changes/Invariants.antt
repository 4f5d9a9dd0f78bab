-- The steps asked for with the changes left are the same as before; each turn leaves one change less.
use Rattle.std.proofs.Common.{◌≡◌, ◌++◌, drop, length, map}
use Rattle.ob_published.specs.declared.shown.Op.TheVariants.{Change}
use Rattle.ob_published.proofs.showing.append_changes.Given as goal

abbrev pub invariant-loop-change : goal.invariant-loop-change
invariant-loop-change g l =
    (l.writer.desk ≡ l.initial.writer.desk)
    × (drop l.writer.behind l.writer.log.items ++ map Change l.left.items ≡ drop l.initial.writer.behind l.initial.writer.log.items ++ map Change l.initial.left.items)

abbrev pub decreases-loop-change : goal.decreases-loop-change
decreases-loop-change g l = length l.left.items
