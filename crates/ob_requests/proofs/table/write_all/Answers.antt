-- Each slot is written in turn.
use Rattle.std.proofs.Common.{◌∙◌, sym, arith}
use Rattle.ob_requests.specs.Rows.{no_row}
use Rattle.ob_requests.proofs.Rows.{IsWritten}
use Rattle.ob_requests.proofs.Tables.{same_length, swept_goes, swept_all}
use Rattle.ob_requests.proofs.table.write_all.Goals as goal

pub index-row-requires : goal.index-row-requires
index-row-requires c = omega (arith, c.loop-slot-test.true, c.loop-slot.invariant.1)

pub index_mut-requires : goal.index_mut-requires
index_mut-requires c = omega (arith, c.loop-slot-test.true, c.loop-slot.invariant.1)

pub loop-slot-preserved : goal.loop-slot-preserved
loop-slot-preserved c = (
  swept_goes (IsWritten c.args.write) c.loop-slot.slot c.args.table.now.entries c.loop-slot.table.entries c.index-row.result.now _ c.index-row.ensures c.written.ensures
      c.loop-slot.invariant.0,
  same_length c.loop-slot.table.entries c.loop-slot.slot _ ∙ c.loop-slot.invariant.1,
)

pub returns : goal.returns
returns c =
    λ variable. swept_all (IsWritten c.args.write) no_row (sym c.requires) c.loop-slot.slot c.args.table.now.entries c.loop-slot.table.entries
    (omega (arith, c.loop-slot-test.false, c.loop-slot.invariant.1)) c.loop-slot.invariant.0 variable
