use Rattle.ob_c.proofs.RowsLemmas.{one_more}
use Rattle.ob_c.proofs.rows.fill_rows.Goals as goal

pub loop-alloc-preserved : goal.loop-alloc-preserved
loop-alloc-preserved c = (
  one_more c.args.process c.args.handle c.loop-alloc.invariant.0 c.names_room-room.result c.take_row.new.progress c.take_row.new.rows c.take_row.new.buffer
      c.ask-ended-in-loop-alloc.result c.ask-ended-in-loop-alloc.new.core _ c.take_row.result c.loop-alloc-test.true c.loop-alloc.invariant.1 c.take_row.ensures
      c.ask-ended-in-loop-alloc.ensures,
  c.loop-alloc.invariant.1,
)
