-- Each part is gathered after those before it.
use Rattle.std.proofs.Common.{arith}
use Rattle.ob_output.proofs.Writers.{at_err}
use Rattle.ob_scripts.proofs.Listed.{plain_more, plain_front}
use Rattle.ob_scripts.proofs.printing.write_plain.Goals as goal

pub loop-rest-preserved : goal.loop-rest-preserved
loop-rest-preserved g c = (
  plain_more c.loop-rest.rest.now c.min-count.result c.loop-rest.invariant.0 c.in_ok-gather.ensures.ok,
  omega (arith, c.loop-rest.invariant.1, c.gather.ensures.capacity),
)

pub returns-in_err-gather-clause-front : goal.returns-in_err-gather-clause-front
returns-in_err-gather-clause-front g c =
    at_err c.from_residual.result _ (plain_front c.loop-rest.rest.now c.min-count.result c.loop-rest.invariant.0 c.in_err-gather.ensures.front)
