-- One line more is played.
use Rattle.std.proofs.Common.{◌≡◌, ◌∙◌, ◌++◌, OnOk, subst}
use Rattle.ob_worker_lines.specs.Forms.{BeginsWithSeatLine, seat_form_seen, seat_found_seen}
use Rattle.ob_requests.specs.Tables.{variables_in}
use Rattle.ob_seats.specs.Received.{Entries}
use Rattle.ob_seats.specs.Played.{IsLinePlayed}
use Rattle.ob_seats.proofs.Playing.{has_form, plays_more}
use Rattle.ob_seats.proofs.seat.Seat.run_part.Goals as goal

-- each line of a seat has a form
pub unreachable-requires : goal.unreachable-requires
unreachable-requires g c =
    has_form c.args.part.text.now c.args.part.first (variables_in c.args.self.now.variables) (g.C.Callers.receipts c.args.pass) c.loop-form.rest.now c.loop-form.number (variables_in c.loop-form.self.variables)
    (g.C.Callers.receipts c.loop-form.pass) c.loop-form.invariant.0 c.in-Some.behind.now
    (subst (λ f. BeginsWithSeatLine c.loop-form.rest.now (seat_found_seen f) c.in-Some.behind.now) c.in_default-form.is c.in-Some.ensures.found)

pub loop-form-preserved : goal.loop-form-preserved
loop-form-preserved g c =
    let form = seat_form_seen c.in-Some-form.form in
    let begins = subst (λ f. BeginsWithSeatLine c.loop-form.rest.now (seat_found_seen f) c.in-Some.behind.now) c.in-Some-form.is c.in-Some.ensures.found in
    let told = subst (λ r. OnOk r ((entries : Entries) × (g.C.Callers.receipts c.perform-back.result.0 ≡ g.C.Callers.receipts c.loop-form.pass ++ entries)
    × IsLinePlayed form (variables_in c.loop-form.self.variables) entries (variables_in c.perform-back.new.self.variables))) c.in_default-done.is c.perform-back.ensures.played in (
      plays_more c.args.part.text.now c.args.part.first (variables_in c.args.self.now.variables) (g.C.Callers.receipts c.args.pass) c.loop-form.rest.now c.loop-form.number (variables_in c.loop-form.self.variables)
          (g.C.Callers.receipts c.loop-form.pass) c.loop-form.invariant.0 c.in-Some.behind.now form begins (variables_in c.perform-back.new.self.variables) (g.C.Callers.receipts c.perform-back.result.0) told.0 told.1 told.2,
      c.perform-back.ensures.held,
      c.perform-back.ensures.seat ∙ c.loop-form.invariant.2,
    )
