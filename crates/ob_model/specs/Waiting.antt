-- The opens that wait after a step.
--
-- Source: Windows Internals, Object Manager (parse methods); that a parse is run between two steps, and the ticket, are
-- this profile.
use Rattle.std.specs.Prelude.{◌≡◌, ◌==◌, not, List, [], ◌∷◌, ◌++◌, filter}
use Rattle.ob_model.specs.declared.reply.Answer.{Answer}
use Rattle.ob_model.specs.declared.reply.Answer.TheVariants.{Done, Ticket}
use Rattle.ob_model.specs.declared.reply.Event.{Event}
use Rattle.ob_model.specs.declared.reply.Event.TheVariants.{Start, Resume, Abandon}
use Rattle.ob_model.specs.declared.state.PendingOpen.{PendingOpen}
use Rattle.ob_model.specs.State.{State}
use Rattle.ob_model.specs.Procedures.{Procedures}
use Rattle.ob_model.specs.Step.{Step}

-- the opens that an event doesn't end
abbrev pub others : {K : Type 0} → Event K → List (PendingOpen K) → List (PendingOpen K)
others (Start p command) opens = opens
others (Resume ticket parse) opens = filter (λ x. not (x.ticket == ticket)) opens
others (Abandon ticket parse) opens = filter (λ x. not (x.ticket == ticket)) opens

-- the opens that wait after an answer: those from before, and where a ticket is answered one more after them, under it
abbrev pub WaitBehind : {K : Type 0} → List (PendingOpen K) → Answer → List (PendingOpen K) → Type 0
WaitBehind before (Done reply) after = after ≡ before
WaitBehind {K} before (Ticket n) after = (x : PendingOpen K) × (after ≡ before ++ x ∷ []) × (x.ticket ≡ n)

module _ (K T F I : Type 0) where
  abbrev pub OpensWaitByTheirTickets : Type 0
  OpensWaitByTheirTickets =
      (g : Procedures K T F I) (s u : State K T F I) (e : Event K) (a : Answer)
      → Step g s e a u → WaitBehind (others e s.pending) a u.pending
