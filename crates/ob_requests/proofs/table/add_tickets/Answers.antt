-- One variable more has its ticket.
use Rattle.std.proofs.Common.{◌≡◌, ℕ, sym, ap, ◌∙◌, arith, rules}
use Rattle.std.proofs.lemmas.List.{take_all}
use Rattle.ob_requests.specs.declared.variable.Write.TheVariants.{Ticket}
use Rattle.ob_requests.specs.Rows.{no_row, written}
use Rattle.ob_requests.specs.Tables.{number_among, row_in}
use Rattle.ob_requests.proofs.Rows.{ticket_added, ticket_passed}
use Rattle.ob_requests.proofs.table.add_tickets.Goals.{then-row-ne0+in_ok-add_ticket, else-row-ne0}
use Rattle.ob_requests.proofs.table.add_tickets.Goals as goal

pub loop-slot-init : goal.loop-slot-init
loop-slot-init c = λ variable. ap (λ (n : ℕ). written (row_in c.args.table.now variable) (Ticket n)) (c.requires.none variable)

pub loop-slot-preserved : goal.loop-slot-preserved
loop-slot-preserved c = elim c.if-row-ne0.branch [
  | then-row-ne0+in_ok-add_ticket w ↦
      let same : c.in-Some.variable.now.items ≡ w.as_slice.result.now = search rules in
      ticket_added (row_in c.args.table.now) (row_in c.loop-slot.table) c.args.from.now.entries c.loop-slot.slot (c.in-Some.variable.now, c.in-Some.row.now)
      c.len-slot-end.ensures.unique (sym c.in-Some.ensures.entry) c.loop-slot.invariant (row_in c.if-row-ne0.table) w.as_slice.result.now same
      (ap row_in w.table-is ∙ w.in_ok-add_ticket.ensures)
  | else-row-ne0 w ↦ λ variable.
      ap (λ t. row_in t variable) w.table-is
      ∙ ticket_passed (row_in c.args.table.now) (row_in c.loop-slot.table) c.args.from.now.entries c.loop-slot.slot (c.in-Some.variable.now, c.in-Some.row.now)
      c.len-slot-end.ensures.unique (sym c.in-Some.ensures.entry) c.loop-slot.invariant w.if-row-ne0.false variable
]

pub returns : goal.returns
returns c = λ variable.
    c.loop-slot.invariant variable
    ∙ ap (λ es. written (row_in c.args.table.now variable) (Ticket (number_among no_row es variable).ticket)) (take_all c.loop-slot.slot c.args.from.now.entries (omega arith))
