-- How a start or a resume ends, as the machine's answer; and what is brought when an open is given up.
--
-- Source: this profile.
use Rattle.ob_model.specs.declared.reply.Answer.{Answer}
use Rattle.ob_model.specs.declared.reply.Answer.TheVariants.{Done, Ticket}
use Rattle.std.specs.Prelude.{None}
use Rattle.ob_model.specs.declared.reply.ParseRun.{ParseRun}
use Rattle.ob_model.specs.declared.reply.ParseRun.TheVariants.{Unrun}
use Rattle.ob_types.specs.Pending.{run_of_end}
use Rattle.ob_types.specs.Parse.{ToRun, HasRun}
use Rattle.ob_locked.specs.declared.started.Pending.{Pending}
use Rattle.ob_locked.specs.declared.started.Pending.TheVariants as pending
use Rattle.ob_locked.specs.declared.started.Started.{Started}
use Rattle.ob_locked.specs.declared.started.Started.TheVariants as started

module _ {K T F I : Type 0} where
  -- a reply, or the ticket of an open that waits
  abbrev pub answer_in : Started T K F I → Answer
  answer_in (started.Done reply) = Done reply
  answer_in (started.Parsing parsing) = Ticket parsing.ticket

  -- a fact of the parse that an open waits for, where one does
  abbrev pub IfWaits : Started T K F I → (ToRun F → Type 0) → Type 0
  IfWaits (started.Done reply) fact = Unit {0}
  IfWaits (started.Parsing parsing) fact = fact parsing

  -- what is brought when an open is given up, as a parse that was run: one that was not found no memory
  abbrev pub brought_in : Pending T K F I → HasRun F I
  brought_in (pending.Unrun parse) = record { ticket = parse.ticket; face = parse.face; rest = parse.rest; outcome = None }
  brought_in (pending.Run parse) = parse

  -- and what became of the parse
  abbrev pub run_in : Pending T K F I → ParseRun
  run_in (pending.Unrun parse) = Unrun
  run_in (pending.Run parse) = run_of_end parse.outcome
