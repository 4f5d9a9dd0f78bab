-- One waits no longer, or under another ticket.
use Rattle.std.proofs.Common.{subst, IfOk, OnErr, ◌≡◌, ◌⊎◌}
use Rattle.ob_runner.specs.Begun.{tickets_of, with_begun, without}
use Rattle.ob_requests.specs.Tables.{variables_in}
use Rattle.ob_requests.specs.Variables.{with_ticket}
use Rattle.ob_effects.proofs.Sessions.{end_keeps, not_none}
use Rattle.ob_effects.proofs.session.Session.end_under.Goals as goal

pub returns-clause-kept : goal.returns-clause-kept
returns-clause-kept c =
    let variables = variables_in c.args.self.now.variables in
    let tickets = tickets_of c.args.self.now.waits in
    let left = tickets_of c.end_waiting.new.waits in
    let after = variables_in c.end_waiting.new.variables in
    record {
      waiting = end_keeps c.end_waiting.result c.args.self.now.core c.end_waiting.new.core variables after c.args.process c.args.variable.now tickets left
          c.state_is_sound.ensures c.requires.kept.waiting (not_none _ _ c.if-ticket-eq0.false c.ticket_of-ticket.ensures) c.end_waiting.ensures.carried
          (subst (λ n. IfOk c.end_waiting.result (λ begun. left ≡ with_begun begun (without n tickets))) c.ticket_of-ticket.ensures c.end_waiting.ensures.tickets)
          c.end_waiting.ensures.stopped
          (subst (λ n. OnErr c.end_waiting.result (((after ≡ variables) × (left ≡ tickets)) ⊎ ((after ≡ with_ticket variables c.args.process c.args.variable.now 0) × (left ≡ without n tickets))))
          c.ticket_of-ticket.ensures c.end_waiting.ensures.kept);
      awaited = c.end_waiting.ensures.awaited;
    }
