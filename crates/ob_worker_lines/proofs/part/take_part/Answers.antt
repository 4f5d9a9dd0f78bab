-- Lines are read one after another, and are no more than the bytes.
use Rattle.std.proofs.Common.{arith}
use Rattle.ob_worker_lines.proofs.Whole.{part_more, part_bound}
use Rattle.ob_worker_lines.proofs.part.take_part.Goals as goal

pub overflow_add-number : goal.overflow_add-number
overflow_add-number c =
    omega (arith, part_bound _ _ _ _ c.loop-behind.invariant, c.in-Some.ensures.shorter, c.requires)

pub loop-behind-preserved : goal.loop-behind-preserved
loop-behind-preserved c = part_more _ _ _ _ _ c.loop-behind.invariant c.in-Some.ensures.found

pub returns-clause-bound : goal.returns-clause-bound
returns-clause-bound c = part_bound _ _ _ _ c.loop-behind.invariant
