-- The receipts of the steps that a seat asks for, in its pass.
--
-- Source: this profile.
use Rattle.std.specs.Prelude.{◌≡◌, ℕ, List, [], ◌∷◌, ◌++◌}
use Rattle.ob_model.specs.declared.reply.Answer.{Answer}
use Rattle.ob_model.specs.declared.reply.Answer.TheVariants.{Done, Ticket}
use Rattle.ob_model.specs.declared.reply.Event.{Event}
use Rattle.ob_model.specs.Run.{Entry}
use Rattle.ob_standard.specs.Standard.{StandardKind}
use Rattle.ob_seats.specs.declared.callers.CallOutcome.{CallOutcome}
use Rattle.ob_seats.specs.declared.callers.CallOutcome.TheVariants.{Replied, Waits}

-- entries of a journal, in their order
abbrev pub Entries : Type 0
Entries = List (Entry StandardKind)

-- one receipt more: of a step with this event and this answer
abbrev pub IsReceived : Entries → Event StandardKind → Answer → Entries → Type 0
IsReceived receipts event answer receipts' = (e : Entry StandardKind) × (receipts' ≡ receipts ++ e ∷ []) × (e.event ≡ event) × (e.answer ≡ answer)

-- how a step ended, as the machine's answer
abbrev pub answer_of : {P : Type 0} → (P → ℕ) → CallOutcome P → Answer
answer_of ticket_of (Replied reply) = Done reply
answer_of ticket_of (Waits parsing) = Ticket (ticket_of parsing)
