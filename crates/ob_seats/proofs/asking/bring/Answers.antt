-- The open that waits goes on, or comes to its reply.
use Rattle.std.proofs.Common.{◌∙◌, IfErr, IfOk, OnErr, ap, refl, subst}
use Rattle.ob_seats.specs.Received.{answer_of}
use Rattle.ob_seats.proofs.Chained.{IsBrought, IsLet, stays, goes_on, comes_to_none, comes_to_reply, answered_so}
use Rattle.ob_seats.proofs.asking.bring.Goals as goal

pub loop-init : goal.loop-init
loop-init g c = (stays (g.C.Callers.receipts c.args.pass) (g.C.Callers.ticket_of c.args.parsing), refl)

pub loop-preserved : goal.loop-preserved
loop-preserved g c =
    let brought = subst (λ r. IfOk r (λ begun. IsBrought (g.C.Callers.receipts c.loop.pass) (g.C.Callers.ticket_of c.loop.parsing) (answer_of g.C.Callers.ticket_of begun) (g.C.Callers.receipts c.resume-back.result.0)))
    c.in-Ok-Waits.is c.resume-back.ensures.told in (
      goes_on (g.C.Callers.receipts c.args.pass) (g.C.Callers.receipts c.loop.pass) (g.C.Callers.receipts c.resume-back.result.0) (g.C.Callers.ticket_of c.args.parsing) (g.C.Callers.ticket_of c.loop.parsing) (g.C.Callers.ticket_of c.in-Ok-Waits.next)
          c.loop.invariant.0 (answered_so _ _ _ _ _ (ap (answer_of g.C.Callers.ticket_of) c.in-Ok-Waits.field-0-is) brought),
      c.resume-back.ensures.seat ∙ c.loop.invariant.1,
    )

pub returns-in-Ok-Replied-clause-ran : goal.returns-in-Ok-Replied-clause-ran
returns-in-Ok-Replied-clause-ran g c =
    let brought = subst (λ r. IfOk r (λ begun. IsBrought (g.C.Callers.receipts c.loop.pass) (g.C.Callers.ticket_of c.loop.parsing) (answer_of g.C.Callers.ticket_of begun) (g.C.Callers.receipts c.resume-back.result.0)))
    c.in-Ok-Replied.is c.resume-back.ensures.told in
    let came = comes_to_reply (g.C.Callers.receipts c.args.pass) (g.C.Callers.receipts c.loop.pass) (g.C.Callers.receipts c.resume-back.result.0) (g.C.Callers.ticket_of c.args.parsing)
    (g.C.Callers.ticket_of c.loop.parsing) c.in-Ok-Replied.reply c.loop.invariant.0 (answered_so _ _ _ _ _ (ap (answer_of g.C.Callers.ticket_of) c.in-Ok-Replied.field-0-is) brought) in
    (came.0, came.1, came.2.0, came.2.1, came.2.2)

pub returns-in-Ok-Replied-clause-seat : goal.returns-in-Ok-Replied-clause-seat
returns-in-Ok-Replied-clause-seat g c = c.resume-back.ensures.seat ∙ c.loop.invariant.1

pub returns-in-Err-clause-seat : goal.returns-in-Err-clause-seat
returns-in-Err-clause-seat g c = c.resume-back.ensures.seat ∙ c.loop.invariant.1

pub returns-in-Err-clause-broken : goal.returns-in-Err-clause-broken
returns-in-Err-clause-broken g c =
    let last = g.C.Callers.receipts c.resume-back.result.0 in
    let gone = subst (λ r. OnErr r (IsLet (g.C.Callers.receipts c.loop.pass) (g.C.Callers.ticket_of c.loop.parsing) last)) c.in-Err.is c.resume-back.ensures.given_up in
    let known = subst (λ r. IfErr r (λ fault. g.C.Callers.gives_fault c.resume-back.result.0 fault)) c.in-Err.is c.resume-back.ensures.fault in
    let none = comes_to_none (g.C.Callers.receipts c.args.pass) (g.C.Callers.receipts c.loop.pass) last (g.C.Callers.ticket_of c.args.parsing) (g.C.Callers.ticket_of c.loop.parsing)
    c.loop.invariant.0 gone in
    (none.0, none.1, none.2, (c.in-Err.fault, known, c.from.ensures))
