-- What is still to be lowered makes of each count what all of it was to make of it.
use Rattle.std.proofs.Common.{◌≡◌, ℕ, ◌-◌}
use Rattle.ob_model.proofs.Ids.{Differ}
use Rattle.ob_handles.specs.Counts.{count_of}
use Rattle.ob_handles.proofs.counts.Counts.lower_all.Given as goal

abbrev pub invariant-loop-object : goal.invariant-loop-object
invariant-loop-object l =
    record {
      differ : Differ l.object-iterator;
      left : (object : ℕ) → count_of l.self object - count_of l.object-iterator object ≡ count_of l.fn.self object - count_of l.others object;
    }
