-- The parse made an instance, which is deleted, or made none.
use Rattle.std.proofs.Common.{◌∙◌, ℕ, Some, ap, sym, subst}
use Rattle.std.specs.Prelude.{MatchOption}
use Rattle.ob_model.specs.declared.reply.Answer.TheVariants.{Done}
use Rattle.ob_model.specs.Parses.{Abandons}
use Rattle.ob_model.specs.PendingOpens.{pending_of, without_pending}
use Rattle.ob_model.specs.Procedures.{EndsMade}
use Rattle.ob_model.specs.Settle.{settle}
use Rattle.ob_types.specs.Pending.{brought as end_of}
use Rattle.ob_opens.specs.Waiting.{made_in}
use Rattle.ob_opens.proofs.Abandoned.{with_inner, nothing_made_there, instance_made}
use Rattle.ob_opens.proofs.abandoning.abandon.Goals as goal

pub returns-in-Some-clause-step : goal.returns-in-Some-clause-step
returns-in-Some-clause-step g c = λ _.
    let s = c.args.space.now in
    let t = c.give_up_made.new.space in
    let came = end_of c.args.brought in
    let outcome = c.into_parts-outcome.ensures.outcome ∙ ap (λ run. run.outcome) c.into_parsed.ensures in
    let made = with_inner came.outcome c.in-Some.inner (ap made_in (sym outcome) ∙ sym c.inner_made.ensures ∙ c.in-Some.is) in (
      came.outcome,
      c.is_awaited-awaited.ensures.taken c.if-not-awaited.false,
      instance_made g.T.TypeSet.procedures s t came.ticket made.0 c.in-Some.inner came.outcome (Done c.give_up_made.result) made.1
          (subst (λ (n : ℕ). MatchOption (pending_of s n) ⊥ (λ y. Abandons g.T.TypeSet.procedures s y (Some (EndsMade made.0 c.in-Some.inner)) (Done c.give_up_made.result) t)) c.ticket-ticket.ensures (c.give_up_made.ensures.abandoned made.0)),
    )

pub returns-in-None-clause-step : goal.returns-in-None-clause-step
returns-in-None-clause-step g c = λ _.
    let s = c.args.space.now in
    let t = c.end_parse.new.space in
    let came = end_of c.args.brought in
    let outcome = c.into_parts-outcome.ensures.outcome ∙ ap (λ run. run.outcome) c.into_parsed.ensures in (
      came.outcome,
      c.is_awaited-awaited.ensures.taken c.if-not-awaited.false,
      nothing_made_there g.T.TypeSet.procedures s t came.ticket came.outcome (c.is_awaited-awaited.ensures.pending c.if-not-awaited.false)
          (ap made_in (sym outcome) ∙ sym c.inner_made.ensures ∙ c.in-None.is)
          (c.end_parse.ensures.ended ∙ ap (λ (n : ℕ). settle g.T.TypeSet.procedures (without_pending s n)) c.ticket-ticket.ensures),
    )
