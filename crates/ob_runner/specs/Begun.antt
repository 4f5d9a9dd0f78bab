-- Opens that were begun and wait for a parse: their state, under which tickets they wait, and how all are given up.
--
-- Source: Windows Internals, Object Manager (parse methods); that a parse is run between two steps, and the tickets, are
-- this profile.
use Rattle.std.specs.Prelude.{◌≡◌, ◌≢◌, ℕ, ◌==◌, not, List, [], ◌∷◌, ◌++◌, filter, map, All}
use Rattle.ob_base.specs.declared.status.Status.TheVariants.{Success}
use Rattle.ob_model.specs.declared.reply.Answer.{Answer}
use Rattle.ob_model.specs.declared.reply.Answer.TheVariants.{Done, Ticket}
use Rattle.ob_model.specs.declared.reply.Event.{Event}
use Rattle.ob_model.specs.declared.reply.Event.TheVariants.{Start, Resume, Abandon}
use Rattle.ob_model.specs.Sound.{IsSound}
use Rattle.ob_model.specs.declared.reply.ParseRun.TheVariants as run
use Rattle.ob_model.specs.Procedures.{Procedures}
use Rattle.ob_model.specs.Refusals.{answers}
use Rattle.ob_model.specs.State.{State}
use Rattle.ob_model.specs.Step.{Step}
use Rattle.ob_types.specs.Parse.{ToRun}
use Rattle.ob_opens.specs.Waiting.{IsParseOf}
use Rattle.ob_runner.specs.declared.begun.Begun.{Begun}
use Rattle.ob_runner.specs.declared.begun.Begun.TheVariants.{Replied, Waits}

-- the state of an open, as the machine's answer
abbrev pub answer_in : Begun → Answer
answer_in (Replied reply) = Done reply
answer_in (Waits n) = Ticket n

-- a fact of the ticket under which an open waits, where it does
abbrev pub IfWaits : Begun → (ℕ → Type 0) → Type 0
IfWaits (Replied reply) fact = Unit {0}
IfWaits (Waits n) fact = fact n

-- the tickets of parses
abbrev pub tickets_of : {F : Type 0} → List (ToRun F) → List ℕ
tickets_of parses = map (λ parse. parse.ticket) parses

-- each parse is the one that an open of the state waits for
abbrev pub AreAwaited : {K T F I : Type 0} → State K T F I → List (ToRun F) → Type 0
AreAwaited s parses = All (IsParseOf s) parses

-- tickets without one of them
abbrev pub without : ℕ → List ℕ → List ℕ
without n tickets = filter (λ k. not (k == n)) tickets

-- tickets with that of an open which waits, where it does
abbrev pub with_begun : Begun → List ℕ → List ℕ
with_begun (Replied reply) tickets = tickets
with_begun (Waits n) tickets = tickets ++ n ∷ []

-- the opens of these tickets are given up, one after another, and none of their parses was run
abbrev pub GivesAllUp : {K T F I : Type 0} → Procedures K T F I → List ℕ → State K T F I → State K T F I → Type 0
GivesAllUp g [] s t = t ≡ s
GivesAllUp {K} {T} {F} {I} g (n ∷ tickets) s t = (u : State K T F I) × Step g s (Abandon n run.Unrun) (answers Success) u × GivesAllUp g tickets u t

-- an event isn't the end of the open of this ticket
abbrev pub IsNoEnd : {K : Type 0} → ℕ → Event K → Type 0
IsNoEnd k (Start p command) = Unit {0}
IsNoEnd k (Resume n parse) = n ≢ k
IsNoEnd k (Abandon n parse) = n ≢ k

-- parses that opens wait for are still those that they wait for after each step that doesn't end these opens
abbrev pub StayAwaited : {K T F I : Type 0} → Procedures K T F I → Type 0
StayAwaited {K} {T} {F} {I} g =
    (s t : State K T F I) (event : Event K) (answer : Answer) (parses : List (ToRun F)) → IsSound s → All (λ parse. IsNoEnd parse.ticket event) parses
    → Step g s event answer t → AreAwaited s parses → AreAwaited t parses
