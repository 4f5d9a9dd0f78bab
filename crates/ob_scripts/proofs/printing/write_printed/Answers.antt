-- Each part is gathered after those before it.
use Rattle.std.proofs.Common.{arith}
use Rattle.ob_scripts.proofs.Told.{part_more, part_front}
use Rattle.ob_scripts.proofs.printing.write_printed.Goals as goal

pub loop-rest-preserved : goal.loop-rest-preserved
loop-rest-preserved g c = (
  part_more (g.W.Write.contents c.args.writer.now) (g.W.Write.contents c.loop-rest.writer) (g.W.Write.contents c.write_printed_part.new.writer)
      c.args.block.now.items c.loop-rest.block.items c.write_printed_part.new.block.items c.args.text.now c.loop-rest.rest.now c.min-count.result c.loop-rest.invariant.0
      c.in-Ok.ensures.ok,
  omega (arith, c.loop-rest.invariant.1, c.write_printed_part.ensures.capacity),
)

pub returns-in-Err-clause-front : goal.returns-in-Err-clause-front
returns-in-Err-clause-front g c =
    part_front (g.W.Write.contents c.args.writer.now) (g.W.Write.contents c.loop-rest.writer) (g.W.Write.contents c.write_printed_part.new.writer)
    c.args.block.now.items c.loop-rest.block.items c.args.text.now c.loop-rest.rest.now c.min-count.result c.loop-rest.invariant.0 c.in-Err.ensures.front
