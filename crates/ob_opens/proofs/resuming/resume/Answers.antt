-- What was brought is the end of the parse that the open waits for.
use Rattle.std.proofs.Common.{◌∙◌, ap, refl, sym, subst}
use Rattle.std.specs.Prelude.{MatchOption}
use Rattle.ob_model.specs.Parses.{Resumes}
use Rattle.ob_model.specs.PendingOpens.{pending_of}
use Rattle.ob_opens.specs.Waiting.{answer_of}
use Rattle.ob_opens.proofs.Resumed.{told, as_resumed}
use Rattle.ob_opens.proofs.resuming.resume.Goals as goal

pub returns-in-Ok-clause-step : goal.returns-in-Ok-clause-step
returns-in-Ok-clause-step g c =
    let s = c.args.space.now in
    let t = c.conclude.new.space in
    let ticket = c.into_parts-ticket.ensures.ticket ∙ ap (λ run. run.ticket) c.into_parsed.ensures in
    let outcome = c.into_parts-ticket.ensures.outcome ∙ ap (λ run. run.outcome) c.into_parsed.ensures in (
      c.args.parsed.outcome,
      as_resumed g.T.TypeSet.procedures s t c.args.parsed.ticket c.args.parsed.outcome (c.is_awaited-awaited.ensures.taken c.if-not-awaited.false),
      subst (λ n. MatchOption (pending_of s n) ⊥ (λ x. Resumes g.T.TypeSet.procedures s x c.args.parsed.outcome (answer_of c.in-Ok.started) t)) ticket
          (told g.T.TypeSet.procedures s t _ c.args.parsed.outcome _ (answer_of c.in-Ok.started) _ (sym outcome) refl c.in-Ok.ensures.resumed),
    )
