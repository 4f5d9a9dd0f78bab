-- The open that waited under its variable ends, or waits under another ticket.
use Rattle.std.proofs.Common.{◌∙◌, IfErr, IfOk, OnErr, ap, inl, inr, sym, subst}
use Rattle.ob_model.specs.declared.reply.Answer.TheVariants.{Done}
use Rattle.ob_model.specs.declared.reply.Event.TheVariants.{Resume}
use Rattle.ob_model.specs.declared.reply.ParseRun.{ParseRun}
use Rattle.ob_runner.specs.Completes.{HasRun}
use Rattle.ob_requests.specs.Tables.{variables_in}
use Rattle.ob_requests.specs.Variables.{Variables, with_ticket}
use Rattle.ob_effects.specs.Waiting.{variables_answered}
use Rattle.ob_seats.specs.Kept.{AreHeld}
use Rattle.ob_seats.specs.Received.{IsReceived, answer_of}
use Rattle.ob_seats.specs.Stopped.{IsNotKept}
use Rattle.ob_seats.proofs.Chained.{IsLet, let_go, step_not_kept}
use Rattle.ob_seats.proofs.Held.{held_ended}
use Rattle.ob_seats.proofs.Told.{both_ok, if_all_err}
use Rattle.ob_seats.proofs.waiting.end.Goals as goal

pub wait-requires-clause-held : goal.wait-requires-clause-held
wait-requires-clause-held g c lifetimes bounds =
    subst (λ (w : Variables). AreHeld (with_ticket w c.args.process c.args.variable.now 0).tickets c.take-parsing.new.self) (sym c.in-Ok.ensures.same)
    (held_ended (variables_in c.args.variables.now) c.args.process c.args.variable.now c.args.ticket c.args.waits.now c.take-parsing.new.self c.requires.under c.requires.some c.requires.held c.take-parsing.ensures.others)

pub returns-in-Ok-Replied-clause-held : goal.returns-in-Ok-Replied-clause-held
returns-in-Ok-Replied-clause-held g c =
    subst (λ (w : Variables). AreHeld w.tickets c.take-parsing.new.self)
    (sym (c.keep_reply.ensures ∙ ap (λ (w : Variables). variables_answered w c.args.process c.args.variable.now (Done c.in-Ok-Replied.reply)) c.in-Ok.ensures.same))
    (held_ended (variables_in c.args.variables.now) c.args.process c.args.variable.now c.args.ticket c.args.waits.now c.take-parsing.new.self c.requires.under c.requires.some c.requires.held c.take-parsing.ensures.others)

pub returns-in-Ok-Replied-clause-played : goal.returns-in-Ok-Replied-clause-played
returns-in-Ok-Replied-clause-played g c =
    let was = variables_in c.args.variables.now in
    let told = subst (λ r. IfOk r (λ begun. (parse : ParseRun) × HasRun parse
    × IsReceived (g.C.Callers.receipts c.args.pass) (Resume (g.C.Callers.ticket_of c.take-parsing.result) parse) (answer_of g.C.Callers.ticket_of begun) (g.C.Callers.receipts c.resume-pass.result.0)))
    c.in-Ok-Replied.is c.resume-pass.ensures.told in
    let answered = told.2.3 ∙ ap (answer_of g.C.Callers.ticket_of) c.in-Ok-Replied.field-0-is in (
      told.2.0,
      told.2.1,
      (
        (told.0, told.1, told.2.2 ∙ ap (λ n. Resume n told.0) (c.take-parsing.ensures.own ∙ sym c.requires.under)),
        c.keep_reply.ensures ∙ (ap (λ (w : Variables). variables_answered w c.args.process c.args.variable.now (Done c.in-Ok-Replied.reply)) c.in-Ok.ensures.same
            ∙ ap (variables_answered was c.args.process c.args.variable.now) (sym answered)),
      ),
    )

pub returns-in-Ok-Waits-clause-played : goal.returns-in-Ok-Waits-clause-played
returns-in-Ok-Waits-clause-played g c =
    let was = variables_in c.args.variables.now in
    let told = subst (λ r. IfOk r (λ begun. (parse : ParseRun) × HasRun parse
    × IsReceived (g.C.Callers.receipts c.args.pass) (Resume (g.C.Callers.ticket_of c.take-parsing.result) parse) (answer_of g.C.Callers.ticket_of begun) (g.C.Callers.receipts c.resume-pass.result.0)))
    c.in-Ok-Waits.is c.resume-pass.ensures.told in
    let answered = told.2.3 ∙ ap (answer_of g.C.Callers.ticket_of) c.in-Ok-Waits.field-0-is in
    both_ok _ _ _ c.wait.result.1
    (λ set kept. (
      told.2.0,
      kept ∙ told.2.1,
      (
        (told.0, told.1, told.2.2 ∙ ap (λ n. Resume n told.0) (c.take-parsing.ensures.own ∙ sym c.requires.under)),
        set ∙ (ap (λ (w : Variables). with_ticket w c.args.process c.args.variable.now (g.C.Callers.ticket_of c.in-Ok-Waits.next)) c.in-Ok.ensures.same
            ∙ ap (variables_answered was c.args.process c.args.variable.now) (sym answered)),
      ),
    ))
    c.wait.ensures.set c.wait.ensures.kept

pub returns-in-Err-begun-clause-held : goal.returns-in-Err-begun-clause-held
returns-in-Err-begun-clause-held g c =
    subst (λ (w : Variables). AreHeld w.tickets c.take-parsing.new.self)
    (sym (c.clear_ticket.ensures ∙ ap (λ (w : Variables). with_ticket w c.args.process c.args.variable.now 0) c.in-Ok.ensures.same))
    (held_ended (variables_in c.args.variables.now) c.args.process c.args.variable.now c.args.ticket c.args.waits.now c.take-parsing.new.self c.requires.under c.requires.some c.requires.held c.take-parsing.ensures.others)

pub returns-in-Ok-Waits-clause-begun : goal.returns-in-Ok-Waits-clause-begun
returns-in-Ok-Waits-clause-begun g c =
    let cleared : Variables → Variables = λ w. with_ticket w c.args.process c.args.variable.now 0 in
    let was = variables_in c.args.variables.now in
    let n = g.C.Callers.ticket_of c.in-Ok-Waits.next in
    let told = subst (λ r. IfOk r (λ begun. (parse : ParseRun) × HasRun parse
    × IsReceived (g.C.Callers.receipts c.args.pass) (Resume (g.C.Callers.ticket_of c.take-parsing.result) parse) (answer_of g.C.Callers.ticket_of begun) (g.C.Callers.receipts c.resume-pass.result.0)))
    c.in-Ok-Waits.is c.resume-pass.ensures.told in
    let answered = told.2.3 ∙ ap (answer_of g.C.Callers.ticket_of) c.in-Ok-Waits.field-0-is in
    let event = told.2.2 ∙ ap (λ k. Resume k told.0) (c.take-parsing.ensures.own ∙ sym c.requires.under) in
    if_all_err _ _ _ _ c.wait.result.1
    (λ why not is abandoned.
    let step = step_not_kept (g.C.Callers.receipts c.args.pass) (g.C.Callers.receipts c.resume-pass.result.0) (g.C.Callers.receipts c.wait.result.0)
    (Resume (was.tickets c.args.process c.args.variable.now) told.0) n why (cleared was) (told.2.0, told.2.1, event, answered)
    (subst (λ (w : Variables). IsNotKept (cleared w) n why) c.in-Ok.ensures.same not) abandoned in
    (step.0, step.1, inr (inr (told.0, told.1, step.2, is ∙ ap cleared c.in-Ok.ensures.same))))
    c.wait.ensures.why c.wait.ensures.cleared c.wait.ensures.abandoned

pub returns-in-Err-begun-clause-begun : goal.returns-in-Err-begun-clause-begun
returns-in-Err-begun-clause-begun g c =
    let last = g.C.Callers.receipts c.resume-pass.result.0 in
    let left = subst (λ r. OnErr r (IsLet (g.C.Callers.receipts c.args.pass) (g.C.Callers.ticket_of c.take-parsing.result) last)) c.in-Err-begun.is c.resume-pass.ensures.given_up in
    let known = subst (λ r. IfErr r (λ fault. g.C.Callers.gives_fault c.resume-pass.result.0 fault)) c.in-Err-begun.is c.resume-pass.ensures.fault in
    let gone = let_go (g.C.Callers.receipts c.args.pass) last (g.C.Callers.ticket_of c.take-parsing.result) ((variables_in c.args.variables.now).tickets c.args.process c.args.variable.now)
    (c.take-parsing.ensures.own ∙ sym c.requires.under) left in (
      gone.0,
      gone.1,
      inr (inl (
        gone.2,
        (c.in-Err-begun.fault, known, c.from.ensures),
        c.clear_ticket.ensures ∙ ap (λ (w : Variables). with_ticket w c.args.process c.args.variable.now 0) c.in-Ok.ensures.same,
      )),
    )
