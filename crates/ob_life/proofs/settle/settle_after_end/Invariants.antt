-- From the last one back, each object had its turn.
use Rattle.ob_handles.specs.Counts.{is_listed}
use Rattle.ob_life.proofs.Judged.{Judged}
use Rattle.ob_life.proofs.Turns.{had_turn}
use Rattle.ob_life.proofs.settle.settle_after_end.Given as goal

abbrev pub invariant-loop-id : goal.invariant-loop-id
invariant-loop-id g l =
    Judged g.T.TypeSet.procedures l.fn.space (had_turn l.fn.space (is_listed l.touched) l.bound)
    l.space

abbrev pub decreases-loop-id : goal.decreases-loop-id
decreases-loop-id g l = l.bound
