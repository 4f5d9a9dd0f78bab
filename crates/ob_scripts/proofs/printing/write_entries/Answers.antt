-- Each entry is gathered after those before it.
use Rattle.std.proofs.Common.{arith}
use Rattle.ob_output.proofs.Writers.{at_err}
use Rattle.ob_scripts.proofs.Listed.{entry_more, entry_front}
use Rattle.ob_scripts.proofs.printing.write_entries.Goals as goal

pub returns-in_err-write_entry-clause-front : goal.returns-in_err-write_entry-clause-front
returns-in_err-write_entry-clause-front g c =
    at_err c.from_residual.result _
    (entry_front c.args.entries.now c.loop-entry.entry-index c.entry-item.result c.loop-entry-test.true c.entry-item.is c.loop-entry.invariant.0 c.in_err-write_entry.ensures.front)

pub loop-entry-preserved : goal.loop-entry-preserved
loop-entry-preserved g c = (
  entry_more c.args.entries.now c.loop-entry.entry-index c.entry-item.result c.loop-entry-test.true c.entry-item.is c.loop-entry.invariant.0 c.in_ok-write_entry.ensures.ok,
  omega (arith, c.loop-entry.invariant.1, c.write_entry.ensures.capacity),
)
