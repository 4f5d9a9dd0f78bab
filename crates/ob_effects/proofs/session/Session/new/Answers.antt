-- No open waits.
use Rattle.std.proofs.Common.{sym, subst}
use Rattle.std.proofs.lemmas.List.Elements.{All-nil}
use Rattle.ob_runner.specs.Begun.{AreAwaited, tickets_of}
use Rattle.ob_runner.specs.Waiting.{IsParseOf}
use Rattle.ob_effects.specs.Kept.{AreWaiting}
use Rattle.ob_effects.proofs.Awaiting.{first_waiting}
use Rattle.ob_effects.proofs.session.Session.new.Goals as goal

pub returns-clause-kept : goal.returns-clause-kept
returns-clause-kept c = record {
  waiting = subst (λ w. AreWaiting c.in_ok-core.core w (tickets_of c.new-waits.result)) (sym c.in_ok-variables.ensures)
      (subst (λ parses. AreWaiting c.in_ok-core.core _ (tickets_of parses)) (sym c.new-waits.ensures) (first_waiting c.in_ok-core.core));
  awaited = subst (AreAwaited c.in_ok-core.core) (sym c.new-waits.ensures) (All-nil (IsParseOf c.in_ok-core.core));
}
