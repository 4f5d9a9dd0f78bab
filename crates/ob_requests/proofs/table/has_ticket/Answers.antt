-- A slot that has none is passed.
use Rattle.std.proofs.Common.{refl, arith}
use Rattle.ob_requests.specs.Rows.{no_row}
use Rattle.ob_requests.proofs.Rows.{HasNoTicket}
use Rattle.ob_requests.proofs.Tables.{swept_stays, swept_all}
use Rattle.ob_requests.proofs.table.has_ticket.Goals as goal

pub loop-slot-preserved : goal.loop-slot-preserved
loop-slot-preserved c =
    swept_stays HasNoTicket c.loop-slot.slot c.args.table.now.entries c.args.table.now.entries c.index.result.now c.index.ensures c.if-index-ne0.false c.loop-slot.invariant

pub returns : goal.returns
returns c =
    λ none variable. swept_all HasNoTicket no_row refl c.loop-slot.slot c.args.table.now.entries c.args.table.now.entries (omega arith) c.loop-slot.invariant variable
