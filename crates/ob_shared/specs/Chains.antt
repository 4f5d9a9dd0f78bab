-- The steps by which a command is run to its reply.
--
-- Source: Windows Internals, Object Manager (parse methods); that other steps may come between them is this profile.
use Rattle.std.specs.Prelude.{◌≡◌, ◌⊎◌, ℕ, List, [], ◌∷◌, ◌++◌}
use Rattle.ob_base.specs.declared.fault.Fault.{Fault}
use Rattle.ob_model.specs.declared.reply.Answer.{Answer}
use Rattle.ob_model.specs.declared.reply.Answer.TheVariants.{Done, Ticket}
use Rattle.ob_model.specs.declared.reply.Event.{Event}
use Rattle.ob_model.specs.declared.reply.Event.TheVariants.{Resume}
use Rattle.ob_model.specs.declared.reply.ParseRun.{ParseRun}
use Rattle.ob_model.specs.declared.reply.Reply.{Reply}
use Rattle.ob_model.specs.Procedures.{Procedures}
use Rattle.ob_model.specs.Run.{Entry}
use Rattle.ob_locked.specs.declared.started.Started.TheVariants as started
use Rattle.ob_locked.specs.Passed.{Passed}
use Rattle.ob_types.specs.Parse.{HasRun}
use Rattle.ob_shared.specs.Told.{IsCutOff, IsNotStarted, IsTold}

-- entries that lead from an event to an answer: each except the last is answered by a ticket, and the next one resumes
-- its open
abbrev pub IsChain : {K : Type 0} → List (Entry K) → Event K → Answer → Type 0
IsChain [] event answer = ⊥
IsChain (e ∷ []) event answer = (e.event ≡ event) × (e.answer ≡ answer)
IsChain (e ∷ next ∷ es) event answer = (e.event ≡ event) × (ticket : ℕ) × (parse : ParseRun) × (e.answer ≡ Ticket ticket) × IsChain (next ∷ es) (Resume ticket parse) answer

-- an open waits for its parse under this ticket: the pass has the receipts of the steps that lead there
abbrev pub IsOnTheWay : {K : Type 0} → Passed K → Event K → ℕ → Passed K → Type 0
IsOnTheWay {K} p event ticket p' = (steps : List (Entry K)) × (p'.receipts ≡ p.receipts ++ steps) × IsChain steps event (Ticket ticket) × (p'.seat ≡ p.seat)

-- A command was run to its reply: the pass has the receipts of the steps that lead there, of which the last is the last step of a run.
pub record IsRunToReply {K T F I : Type 0} (g : Procedures K T F I) (p : Passed K) (event : Event K) (reply : Reply) (p' : Passed K) : Type 0 where
  pub steps : List (Entry K)
  pub receipts : p'.receipts ≡ p.receipts ++ steps
  pub leads : IsChain steps event (Done reply)
  pub seat : p'.seat ≡ p.seat
  pub before : Passed K
  pub last : Event K
  pub told : IsTold {I = I} g before last (started.Done reply) p'

-- A command got no reply: the resume of a pending open made no step for this reason, and the open was abandoned under the same lock.
pub record IsGivenUpAt {K T F I : Type 0} (g : Procedures K T F I) (p : Passed K) (event : Event K) (fault : Fault) (p' : Passed K) : Type 0 where
  pub waited : Passed K
  pub parsed : HasRun F I
  pub way : IsOnTheWay p event parsed.ticket waited
  pub ended : IsCutOff g waited parsed fault p'

-- no reply is given: the start made no step; or the open was abandoned
abbrev pub IsCutShort : {K T F I : Type 0} → Procedures K T F I → Passed K → Event K → Fault → Passed K → Type 0
IsCutShort g p event fault p' = ((p' ≡ p) × IsNotStarted g p fault) ⊎ IsGivenUpAt g p event fault p'
