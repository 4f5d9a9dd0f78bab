-- The gap is that of what is left; and the numbers stay small.
use Rattle.std.proofs.Common.{◌≡◌, ◌+◌, ◌*◌, ◌≤◌, length}
use Rattle.std.specs.BTreeMap.{keys}
use Rattle.ob_handles.specs.Indexed.{gap}
use Rattle.ob_handles.proofs.free.least_unused.Given as goal

abbrev pub invariant-loop-value : goal.invariant-loop-value
invariant-loop-value l =
    record {
      gap : gap l.least l.value-iterator ≡ gap 4 (keys l.values);
      small : l.least + 4 * length l.value-iterator ≤ 262144;
    }
