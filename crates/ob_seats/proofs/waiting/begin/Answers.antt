-- The open begins with the variables as they were before room was made.
use Rattle.std.proofs.Common.{◌∙◌, IfOk, ap, inr, sym, subst}
use Rattle.ob_model.specs.declared.reply.Answer.TheVariants.{Done}
use Rattle.ob_model.specs.declared.reply.Event.TheVariants.{Start}
use Rattle.ob_requests.specs.Tables.{variables_in}
use Rattle.ob_requests.specs.Variables.{Variables, with_ticket}
use Rattle.ob_effects.specs.Waiting.{variables_answered}
use Rattle.ob_seats.specs.Kept.{AreHeld}
use Rattle.ob_seats.specs.Received.{IsReceived, answer_of}
use Rattle.ob_seats.specs.Stopped.{IsNotKept}
use Rattle.ob_seats.proofs.Chained.{step_not_kept}
use Rattle.ob_seats.proofs.Held.{held_freed}
use Rattle.ob_seats.proofs.Told.{both_ok, if_all_err}
use Rattle.ob_seats.proofs.waiting.begin.Goals as goal

pub returns-in-Ok-Replied-clause-held : goal.returns-in-Ok-Replied-clause-held
returns-in-Ok-Replied-clause-held g c =
    let was = variables_in c.args.variables.now in
    subst (λ (w : Variables). AreHeld w.tickets c.args.waits.now)
    (sym (c.keep_reply.ensures ∙ ap (λ (w : Variables). variables_answered w c.args.process c.args.variable.now (Done c.in-Ok-Replied.reply)) c.in-Ok.ensures.same))
    (held_freed was c.args.process c.args.variable.now c.args.waits.now c.requires.free c.requires.held)

pub returns-in-Ok-Replied-clause-played : goal.returns-in-Ok-Replied-clause-played
returns-in-Ok-Replied-clause-played g c =
    let was = variables_in c.args.variables.now in
    let told = subst (λ r. IfOk r (λ begun. IsReceived (g.C.Callers.receipts c.args.pass) (Start c.args.process c.in-Ok.command) (answer_of g.C.Callers.ticket_of begun) (g.C.Callers.receipts c.start-pass.result.0)))
    c.in-Ok-Replied.is c.start-pass.ensures.told in
    let answered = told.3 ∙ ap (answer_of g.C.Callers.ticket_of) c.in-Ok-Replied.field-0-is in (
      told.0,
      told.1,
      (
        (c.in-Ok.command, c.in-Ok.ensures.command, told.2),
        c.keep_reply.ensures ∙ (ap (λ (w : Variables). variables_answered w c.args.process c.args.variable.now (Done c.in-Ok-Replied.reply)) c.in-Ok.ensures.same
            ∙ ap (variables_answered was c.args.process c.args.variable.now) (sym answered)),
      ),
    )

pub wait-requires-clause-held : goal.wait-requires-clause-held
wait-requires-clause-held g c lifetimes bounds =
    subst (λ (w : Variables). AreHeld (with_ticket w c.args.process c.args.variable.now 0).tickets c.args.waits.now) (sym c.in-Ok.ensures.same)
    (held_freed (variables_in c.args.variables.now) c.args.process c.args.variable.now c.args.waits.now c.requires.free c.requires.held)

pub returns-in-Ok-Waits-clause-played : goal.returns-in-Ok-Waits-clause-played
returns-in-Ok-Waits-clause-played g c =
    let was = variables_in c.args.variables.now in
    let told = subst (λ r. IfOk r (λ begun. IsReceived (g.C.Callers.receipts c.args.pass) (Start c.args.process c.in-Ok.command) (answer_of g.C.Callers.ticket_of begun) (g.C.Callers.receipts c.start-pass.result.0)))
    c.in-Ok-Waits.is c.start-pass.ensures.told in
    let answered = told.3 ∙ ap (answer_of g.C.Callers.ticket_of) c.in-Ok-Waits.field-0-is in
    both_ok _ _ _ c.wait.result.1
    (λ set kept. (
      told.0,
      kept ∙ told.1,
      (
        (c.in-Ok.command, c.in-Ok.ensures.command, told.2),
        set ∙ (ap (λ (w : Variables). with_ticket w c.args.process c.args.variable.now (g.C.Callers.ticket_of c.in-Ok-Waits.parsing)) c.in-Ok.ensures.same
            ∙ ap (variables_answered was c.args.process c.args.variable.now) (sym answered)),
      ),
    ))
    c.wait.ensures.set c.wait.ensures.kept

pub returns-in-Ok-Waits-clause-begun : goal.returns-in-Ok-Waits-clause-begun
returns-in-Ok-Waits-clause-begun g c =
    let cleared : Variables → Variables = λ w. with_ticket w c.args.process c.args.variable.now 0 in
    let n = g.C.Callers.ticket_of c.in-Ok-Waits.parsing in
    let told = subst (λ r. IfOk r (λ begun. IsReceived (g.C.Callers.receipts c.args.pass) (Start c.args.process c.in-Ok.command) (answer_of g.C.Callers.ticket_of begun) (g.C.Callers.receipts c.start-pass.result.0)))
    c.in-Ok-Waits.is c.start-pass.ensures.told in
    let answered = told.3 ∙ ap (answer_of g.C.Callers.ticket_of) c.in-Ok-Waits.field-0-is in
    if_all_err _ _ _ _ c.wait.result.1
    (λ why not is abandoned.
    let step = step_not_kept (g.C.Callers.receipts c.args.pass) (g.C.Callers.receipts c.start-pass.result.0) (g.C.Callers.receipts c.wait.result.0) (Start c.args.process c.in-Ok.command) n why
    (cleared (variables_in c.args.variables.now)) (told.0, told.1, told.2, answered) (subst (λ (w : Variables). IsNotKept (cleared w) n why) c.in-Ok.ensures.same not) abandoned in
    (step.0, step.1, inr (c.in-Ok.command, c.in-Ok.ensures.command, step.2, is ∙ ap cleared c.in-Ok.ensures.same)))
    c.wait.ensures.why c.wait.ensures.cleared c.wait.ensures.abandoned
