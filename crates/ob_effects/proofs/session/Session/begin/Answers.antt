-- One more waits, or none.
use Rattle.ob_runner.specs.Begun.{tickets_of}
use Rattle.ob_parts.specs.Parts.{name_seen}
use Rattle.ob_requests.specs.Tables.{variables_in}
use Rattle.std.proofs.Common.{sym, ◌∙◌}
use Rattle.ob_effects.proofs.Sessions.{begin_keeps}
use Rattle.ob_effects.proofs.session.Session.begin.Goals as goal

pub returns-clause-kept : goal.returns-clause-kept
returns-clause-kept c = record {
  waiting = begin_keeps c.begin_under.result c.args.self.now.core c.begin_under.new.core (variables_in c.args.self.now.variables) (variables_in c.begin_under.new.variables)
      c.args.process c.args.asked.0 (name_seen c.args.asked.1) c.args.asked.2 c.args.variable.now (tickets_of c.args.self.now.waits) (tickets_of c.begin_under.new.waits)
      c.state_is_sound.ensures c.requires.kept.waiting (sym c.ticket_of.ensures ∙ c.if-ticket_of-ne0.false) c.begin_under.ensures.carried c.begin_under.ensures.tickets
      c.begin_under.ensures.stopped c.begin_under.ensures.kept;
  awaited = c.begin_under.ensures.awaited;
}
