-- A parse whose ticket is above all comes last, and none was kept under it.
use Rattle.std.proofs.Common.{◌∙◌, ◌<◌, All, ap, inl, refl, sym, subst}
use Rattle.ob_runner.proofs.Results.{on_ok, ok_of_err, if_err_of_ok, if_err_of_err}
use Rattle.ob_seats.specs.Kept.{AreKept}
use Rattle.ob_seats.proofs.Keys.{is_next, last_now, more_kept, none_there}
use Rattle.ob_seats.proofs.waits.SeatWaits.keep.Goals as goal
use Rattle.ob_seats.proofs.waits.SeatWaits.keep.Goals.{in-Ok-None, in-Ok-Some, in-Err}

pub invariant_of-self : goal.invariant_of-self
invariant_of-self g c =
    let below : All (λ k. k < c.ticket-ticket.result) c.args.self.now = c.is_above_all.ensures.above c.if-not-is_above_all.false in
    let more = more_kept g.C.Callers.ticket_of c.self.inside.parses.entries c.self.invariant c.args.self.now c.self.view_is c.ticket-ticket.result c.args.parsing c.ticket-ticket.ensures below c.insert.new.self.entries in
    elim c.match-insert.branch [
      | in-Ok-None w ↦ more w.in-Ok-None.ensures.entries c.insert.ensures.ordered
      | in-Ok-Some w ↦ more w.in-Ok-Some.ensures.entries c.insert.ensures.ordered
      | in-Err w ↦ subst (AreKept g.C.Callers.ticket_of) (sym w.in-Err.ensures.err) c.self.invariant
    ]

pub returns-clause-last : goal.returns-clause-last
returns-clause-last g c =
    let below : All (λ k. k < c.ticket-ticket.result) c.args.self.now = c.is_above_all.ensures.above c.if-not-is_above_all.false in
    let last = last_now g.C.Callers.ticket_of c.self.inside.parses.entries c.self.invariant c.args.self.now c.self.view_is c.ticket-ticket.result c.args.parsing c.ticket-ticket.ensures below c.insert.new.self.entries in
    elim c.match-insert.branch [
      | in-Ok-None w ↦ on_ok _ c.match-insert.result (last w.in-Ok-None.ensures.entries)
      | in-Ok-Some w ↦ ok_of_err _ c.match-insert.result _ w.result-is
      | in-Err w ↦ ok_of_err _ c.match-insert.result _ w.result-is
    ]

pub returns-clause-back : goal.returns-clause-back
returns-clause-back g c =
    let below : All (λ k. k < c.ticket-ticket.result) c.args.self.now = c.is_above_all.ensures.above c.if-not-is_above_all.false in
    elim c.match-insert.branch [
      | in-Ok-None w ↦ if_err_of_ok _ c.match-insert.result _ w.result-is
      | in-Ok-Some w ↦ absurd (none_there g.C.Callers.ticket_of c.self.inside.parses.entries c.args.self.now c.self.view_is c.ticket-ticket.result below w.in-Ok-Some.other (sym w.in-Ok-Some.field-0-is ∙ w.in-Ok-Some.ensures.old))
      | in-Err w ↦ if_err_of_err _ c.match-insert.result _ w.result-is (ap (λ y. y.1) w.in-Err.ensures.value_returned)
    ]

-- the ticket was new, so that only memory was missing
pub returns-clause-why : goal.returns-clause-why
returns-clause-why g c =
    let below : All (λ k. k < c.ticket-ticket.result) c.args.self.now = c.is_above_all.ensures.above c.if-not-is_above_all.false in
    elim c.match-insert.branch [
      | in-Ok-None w ↦ if_err_of_ok _ c.match-insert.result _ w.result-is
      | in-Ok-Some w ↦ absurd (none_there g.C.Callers.ticket_of c.self.inside.parses.entries c.args.self.now c.self.view_is c.ticket-ticket.result below w.in-Ok-Some.other (sym w.in-Ok-Some.field-0-is ∙ w.in-Ok-Some.ensures.old))
      | in-Err w ↦ if_err_of_err _ c.match-insert.result _ w.result-is (inl (refl, is_next c.args.self.now c.ticket-ticket.result (g.C.Callers.ticket_of c.args.parsing) c.ticket-ticket.ensures c.if-ticket-eq0.false below))
    ]
