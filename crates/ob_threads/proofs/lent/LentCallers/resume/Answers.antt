-- The parse was run, and brought or given up.
use Rattle.std.proofs.Common.{IfOk, IfErr, inr, ap, subst}
use Rattle.ob_model.specs.declared.reply.Answer.TheVariants.{Done, Ticket}
use Rattle.ob_model.specs.declared.reply.Event.TheVariants.{Resume}
use Rattle.ob_types.specs.Pending.{run_of_end}
use Rattle.ob_standard.specs.Standard.{standard}
use Rattle.ob_locked.specs.Answers.{answer_in}
use Rattle.ob_locked.specs.declared.started.Pending.TheVariants as pending
use Rattle.ob_shared.specs.Told.{IsCutOff, IsTold}
use Rattle.ob_threads.proofs.Brought.{has_run, received, given_up}
use Rattle.ob_threads.proofs.lent.LentCallers.resume.Goals as goal

pub returns-in-Ok-Done-clause-told : goal.returns-in-Ok-Done-clause-told
returns-in-Ok-Done-clause-told g c =
    let parse = run_of_end c.run-parsed.result.outcome in
    let told = subst (λ r. IfOk r (λ started. IsTold standard c.args.pass (Resume c.run-parsed.result.ticket parse) started c.bring-pass.result.0)) c.in-Ok-Done.is c.bring-pass.ensures.told in (
      parse,
      has_run c.run-parsed.result.outcome,
      received c.args.pass c.bring-pass.result.0 (Resume c.run-parsed.result.ticket parse) (Resume c.args.parsing.ticket parse) (Done c.in-Ok-Done.reply) c.in-Ok-Done.field-0 told
          (ap (λ n. Resume n parse) c.run-parsed.ensures.ticket) (ap answer_in c.in-Ok-Done.field-0-is),
    )

pub returns-in-Ok-Parsing-clause-told : goal.returns-in-Ok-Parsing-clause-told
returns-in-Ok-Parsing-clause-told g c =
    let parse = run_of_end c.run-parsed.result.outcome in
    let told = subst (λ r. IfOk r (λ started. IsTold standard c.args.pass (Resume c.run-parsed.result.ticket parse) started c.bring-pass.result.0)) c.in-Ok-Parsing.is c.bring-pass.ensures.told in (
      parse,
      has_run c.run-parsed.result.outcome,
      received c.args.pass c.bring-pass.result.0 (Resume c.run-parsed.result.ticket parse) (Resume c.args.parsing.ticket parse) (Ticket c.in-Ok-Parsing.next.ticket) c.in-Ok-Parsing.field-0 told
          (ap (λ n. Resume n parse) c.run-parsed.ensures.ticket) (ap answer_in c.in-Ok-Parsing.field-0-is),
    )

pub returns-in-Err-clause-given_up : goal.returns-in-Err-clause-given_up
returns-in-Err-clause-given_up g c =
    let cut = subst (λ r. IfErr r (λ fault. IsCutOff standard c.args.pass c.run-parsed.result fault c.bring-pass.result.0)) c.in-Err.is c.bring-pass.ensures.cut_off in
    given_up c.args.pass c.bring-pass.result.0 (pending.Run c.run-parsed.result) c.args.parsing.ticket (cut.0, cut.1, cut.2.1) c.run-parsed.ensures.ticket

pub returns-in-Err-clause-fault : goal.returns-in-Err-clause-fault
returns-in-Err-clause-fault g c =
    inr (c.args.pass, c.run-parsed.result, subst (λ r. IfErr r (λ fault. IsCutOff standard c.args.pass c.run-parsed.result fault c.bring-pass.result.0)) c.in-Err.is c.bring-pass.ensures.cut_off)
