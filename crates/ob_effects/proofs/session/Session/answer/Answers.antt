-- What waits goes on waiting while a request is run to its reply, or found no memory.
use Rattle.std.proofs.Common.{sym, subst}
use Rattle.ob_runner.specs.Begun.{tickets_of}
use Rattle.ob_runner.proofs.Awaited.{completes_all_await}
use Rattle.ob_lines.specs.Grammar.{request_seen}
use Rattle.ob_requests.specs.Tables.{variables_in}
use Rattle.ob_standard.specs.Standard.{standard}
use Rattle.ob_effects.specs.Kept.{AreWaiting}
use Rattle.ob_effects.proofs.Awaiting.{answered_waiting, unanswered_waiting, unanswered_await}
use Rattle.ob_effects.proofs.Memory.{never_unanswered}
use Rattle.ob_effects.proofs.session.Session.answer.Goals as goal

pub returns-in-Ok-clause-kept : goal.returns-in-Ok-clause-kept
returns-in-Ok-clause-kept c =
    let s = c.args.self.now.core in
    let t = c.reply_to.new.core in
    let parses = c.args.self.now.waits in
    let answered = c.in-Ok.ensures.answered in
    let chain = answered.0 in
    record {
      waiting = subst (λ w. AreWaiting t w (tickets_of parses)) (sym answered.1)
          (answered_waiting s t (variables_in c.args.self.now.variables) c.args.process (request_seen c.args.request.now) chain.0 chain.1 c.in-Ok.reply (tickets_of parses) c.state_is_sound.ensures chain.3
          c.requires.kept.waiting);
      awaited = completes_all_await standard c.args.process chain.0 chain.1 s t c.in-Ok.reply parses c.state_is_sound.ensures chain.3 c.requires.kept.awaited;
    }

pub returns-in-Err-clause-kept : goal.returns-in-Err-clause-kept
returns-in-Err-clause-kept c =
    let s = c.args.self.now.core in
    let t = c.reply_to.new.core in
    let parses = c.args.self.now.waits in
    let wanting = c.in-Err.ensures.wanting in
    record {
      waiting = subst (λ w. AreWaiting t w (tickets_of parses)) (sym c.in-Err.ensures.kept)
          (unanswered_waiting s t (variables_in c.args.self.now.variables) c.args.process (request_seen c.args.request.now) wanting.0 (tickets_of parses) c.state_is_sound.ensures wanting.1 c.requires.kept.waiting);
      awaited = unanswered_await s t (variables_in c.args.self.now.variables) c.args.process (request_seen c.args.request.now) wanting.0 parses c.state_is_sound.ensures wanting.1 c.requires.kept.awaited;
    }

pub returns-in-Err-clause-without_memory : goal.returns-in-Err-clause-without_memory
returns-in-Err-clause-without_memory c = λ takes.
    never_unanswered (request_seen c.args.request.now) c.args.process (variables_in c.args.self.now.variables) c.args.self.now.core c.reply_to.new.core takes c.in-Err.ensures.wanting
