-- The open waits under its variable.
use Rattle.std.proofs.Common.{ap, sym, subst, ◌∙◌, [], ◌∷◌, ◌++◌}
use Rattle.ob_requests.specs.Tables.{variables_in}
use Rattle.ob_requests.specs.Variables.{Variables, with_ticket}
use Rattle.ob_seats.specs.Kept.{AreHeld}
use Rattle.ob_seats.proofs.Held.{held_begun, not_kept}
use Rattle.ob_seats.proofs.waiting.wait.Goals as goal

pub returns-in-Ok-clause-held : goal.returns-in-Ok-clause-held
returns-in-Ok-clause-held g c =
    let n = g.C.Callers.ticket_of c.args.parsing in
    let variables = variables_in c.args.variables.now in
    subst (AreHeld (variables_in c.set_ticket.new.self).tickets) (sym c.in-Ok.ensures.last)
    (subst (λ (w : Variables). AreHeld w.tickets (c.args.waits.now ++ n ∷ []))
    (sym (c.set_ticket.ensures ∙ ap (with_ticket variables c.args.process c.args.variable.now) c.ticket-ticket.ensures))
    (held_begun variables c.args.process c.args.variable.now n c.args.waits.now c.in-Ok.ensures.some c.in-Ok.ensures.newest c.requires.held))

pub returns-in-Err-clause-why : goal.returns-in-Err-clause-why
returns-in-Err-clause-why g c =
    not_kept (with_ticket (variables_in c.args.variables.now) c.args.process c.args.variable.now 0) c.args.waits.now c.requires.held (g.C.Callers.ticket_of c.args.parsing) c.in-Err.stop c.in-Err.ensures.why
