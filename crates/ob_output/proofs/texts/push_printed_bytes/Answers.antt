-- Each byte is printed behind those before it, as three at most.
use Rattle.std.proofs.Common.{arith}
use Rattle.ob_output.proofs.Printed.{printed_more}
use Rattle.ob_output.proofs.texts.push_printed_bytes.Goals as goal

pub loop-byte-preserved : goal.loop-byte-preserved
loop-byte-preserved c = (
  printed_more _ _ _ _ _ c.loop-byte-test.true c.loop-byte.invariant.0 c.push_printed_byte.ensures.items,
  omega (arith, c.loop-byte.invariant.1, c.push_printed_byte.ensures.len),
  omega (arith, c.loop-byte.invariant.2, c.push_printed_byte.ensures.capacity),
  omega (arith, c.loop-byte.invariant.3, c.push_printed_byte.ensures.capacity),
)
