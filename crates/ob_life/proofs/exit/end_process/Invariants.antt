-- What is still to be closed makes of the state what all was to make of it.
use Rattle.std.proofs.Common.{◌≡◌, ◌+◌, ◌<◌, ◌^◌, true, All, length}
use Rattle.ob_handles.specs.Counts.{is_listed}
use Rattle.ob_model.specs.Processes.{handles_in, ended}
use Rattle.ob_space.specs.Namespace.{parts, state_of}
use Rattle.ob_life.proofs.Endings.{closing}
use Rattle.ob_life.proofs.exit.end_process.Given as goal

abbrev pub invariant-loop-held : goal.invariant-loop-held
invariant-loop-held g l =
    record {
      turn : closing g.T.TypeSet.procedures (state_of g.row.T-Kind.Denot (parts l.space-inside)) l.ending.handles ≡ ended g.T.TypeSet.procedures l.fn.space l.fn.process;
      few : length l.ending.handles + length l.space-inside.processes.handles < 2 ^ 32;
      listed : All (λ h. is_listed l.ending.touched h.object ≡ true) (handles_in l.fn.space l.fn.process);
    }

abbrev pub decreases-loop-held : goal.decreases-loop-held
decreases-loop-held g l = length l.ending.handles
