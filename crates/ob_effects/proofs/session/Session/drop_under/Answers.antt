-- One waits no longer, and its variable is set to 0.
use Rattle.std.proofs.Common.{ap, ◌∙◌}
use Rattle.ob_model.specs.declared.reply.Event.TheVariants.{Abandon}
use Rattle.ob_model.specs.declared.reply.ParseRun.TheVariants.{Unrun}
use Rattle.ob_runner.specs.Begun.{tickets_of}
use Rattle.ob_requests.specs.Tables.{variables_in}
use Rattle.ob_requests.specs.Variables.{Variables, with_variable}
use Rattle.ob_effects.proofs.Sessions.{drop_keeps, makes_drop, not_none}
use Rattle.ob_effects.proofs.session.Session.drop_under.Goals as goal

pub returns-clause-kept : goal.returns-clause-kept
returns-clause-kept c = record {
  waiting = drop_keeps c.args.self.now.core c.abandon.new.core (variables_in c.args.self.now.variables) (variables_in c.give_up.new.self) c.args.process c.args.variable.now c.ticket_of-ticket.result
      (tickets_of c.args.self.now.waits) (tickets_of c.abandon.new.self) c.state_is_sound.ensures c.requires.kept.waiting c.ticket_of-ticket.ensures
      c.if-ticket-eq0.false
      (c.give_up.ensures ∙ ap (λ (w : Variables). with_variable w c.args.process c.args.variable.now 0) c.clear_ticket.ensures) c.abandon.ensures.tickets c.abandon.ensures.step;
  awaited = c.abandon.ensures.awaited;
}

pub returns-clause-done : goal.returns-clause-done
returns-clause-done c = (
  makes_drop (variables_in c.args.self.now.variables) c.args.process c.args.variable.now (not_none _ _ c.if-ticket-eq0.false c.ticket_of-ticket.ensures),
  (
    (Abandon c.ticket_of-ticket.result Unrun, ap (λ n. Abandon n Unrun) c.ticket_of-ticket.ensures, c.abandon.ensures.step),
    c.give_up.ensures ∙ ap (λ (w : Variables). with_variable w c.args.process c.args.variable.now 0) c.clear_ticket.ensures,
  ),
)
