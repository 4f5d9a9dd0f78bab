-- Where the seat's entries and the receipts differ first.
use Rattle.std.proofs.Common.{arith, ◌≡◌, ◌∙◌, ◌+◌, ◌++◌, List, take, ap, sym, subst}
use Rattle.ob_segments.specs.Journal.{whole}
use Rattle.ob_agreement.specs.Agreement.{entries_of}
use Rattle.ob_agreement.proofs.Seats.{place_is, other_here, none_here, same_here, other_seat, more_behind}
use Rattle.ob_agreement.proofs.compared.difference.Goals.{then-entry-seat+in-Some+else-not-is_same_entry, else-entry-seat}
use Rattle.ob_agreement.proofs.compared.difference.Goals as goal

pub returns-then-not-is_same_entry-clause-some : goal.returns-then-not-is_same_entry-clause-some
returns-then-not-is_same_entry-clause-some g c =
    other_here c.args.seat (whole c.args.journal.now.journal) c.args.receipts.now c.loop-place.place c.loop-place.rest c.loop-place.invariant c.entry_at-entry.result.now (omega (arith, c.loop-place-test.true, c.len-place-end.ensures)) (place_is (whole c.args.journal.now.journal) c.loop-place.place c.entry_at-entry.result.now c.entry_at-entry.ensures)
    (ap (λ e. e.seat) (sym c.entry.view_is) ∙ c.if-entry-seat.true) c.in-Some.receipt.now c.next.new.self _ _ c.in-Some.ensures.steps
    (λ same. let yes' = c.is_same_entry.ensures.1 same in let no' = c.if-not-is_same_entry.true in cc) (ap (λ e. e.number) c.entry.view_is) (ap (λ e. e.number) c.receipt.view_is)

pub returns-in-None-clause-some : goal.returns-in-None-clause-some
returns-in-None-clause-some g c =
    none_here c.args.seat (whole c.args.journal.now.journal) c.args.receipts.now c.loop-place.place c.loop-place.rest c.loop-place.invariant c.entry_at-entry.result.now (omega (arith, c.loop-place-test.true, c.len-place-end.ensures)) (place_is (whole c.args.journal.now.journal) c.loop-place.place c.entry_at-entry.result.now c.entry_at-entry.ensures)
    (ap (λ e. e.seat) (sym c.entry.view_is) ∙ c.if-entry-seat.true) _ c.in-None.ensures.steps.0 (ap (λ e. e.number) c.entry.view_is)

pub loop-place-preserved : goal.loop-place-preserved
loop-place-preserved g c = elim c.if-entry-seat.branch [
  | then-entry-seat+in-Some+else-not-is_same_entry w ↦
      same_here c.args.seat (whole c.args.journal.now.journal) c.args.receipts.now c.loop-place.place c.loop-place.rest c.loop-place.invariant c.entry_at-entry.result.now (omega (arith, c.loop-place-test.true, c.len-place-end.ensures)) (place_is (whole c.args.journal.now.journal) c.loop-place.place c.entry_at-entry.result.now c.entry_at-entry.ensures)
      (ap (λ e. e.seat) (sym c.entry.view_is) ∙ w.if-entry-seat.true) w.in-Some.receipt.now w.next.new.self w.in-Some.ensures.steps (w.is_same_entry.ensures.0 w.if-not-is_same_entry.false)
      ∙ ap (λ l. entries_of c.args.seat (take (c.loop-place.place + 1) (whole c.args.journal.now.journal)) ++ l) (sym w.rest-is)
  | else-entry-seat w ↦
      other_seat c.args.seat (whole c.args.journal.now.journal) c.args.receipts.now c.loop-place.place c.loop-place.rest c.loop-place.invariant c.entry_at-entry.result.now (omega (arith, c.loop-place-test.true, c.len-place-end.ensures)) (place_is (whole c.args.journal.now.journal) c.loop-place.place c.entry_at-entry.result.now c.entry_at-entry.ensures)
      (λ own. w.if-entry-seat.false (ap (λ e. e.seat) c.entry.view_is ∙ own))
      ∙ ap (λ l. entries_of c.args.seat (take (c.loop-place.place + 1) (whole c.args.journal.now.journal)) ++ l) (sym w.rest-is)
]

pub returns-in-Some-next-clause-some : goal.returns-in-Some-next-clause-some
returns-in-Some-next-clause-some g c =
    more_behind c.args.seat (whole c.args.journal.now.journal) c.args.receipts.now c.loop-place.place c.loop-place.rest c.loop-place.invariant c.in-Some-next.receipt.now c.next-2.new.self _ (omega (arith, c.loop-place-test.false, c.len-place-end.ensures))
    c.in-Some-next.ensures.steps (ap (λ e. e.number) c.receipt-in-Some-next.view_is)
