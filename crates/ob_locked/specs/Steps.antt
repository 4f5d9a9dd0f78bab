-- Steps under the lock, and why a start or a pass makes none.
--
-- Source: this profile.
use Rattle.std.specs.Prelude.{◌≡◌, ◌⊎◌, ℕ, ◌+◌, ◌<◌, ◌++◌, List, [], ◌∷◌, length}
use Rattle.ob_entries.specs.Segments.{most_entries, most_sealed}
use Rattle.ob_base.specs.declared.fault.Fault.{Fault}
use Rattle.ob_base.specs.declared.fault.Fault.TheVariants.{Memory, Refused}
use Rattle.ob_base.specs.declared.status.Status.TheVariants.{InsufficientResources, InvalidParameter, JournalFull}
use Rattle.ob_model.specs.declared.reply.Answer.{Answer}
use Rattle.ob_model.specs.declared.reply.Event.{Event}
use Rattle.ob_model.specs.Procedures.{Procedures}
use Rattle.ob_model.specs.Run.{Entry}
use Rattle.ob_model.specs.Step.{Step}
use Rattle.ob_segments.specs.Journal.{Journal, whole, with_entry, with_seal}
use Rattle.ob_types.specs.Parse.{ToRun}
use Rattle.ob_opens.specs.Waiting.{IsAwaited}
use Rattle.ob_locked.specs.Entered.{entered}
use Rattle.ob_locked.specs.Locked.{History}
use Rattle.ob_locked.specs.Passed.{Passed, IsKnown}
use Rattle.ob_locked.specs.Places.{places_of_start}

-- A step that was made: the machine's, from the state to the next one; its entry, with the event that was asked and the answer
-- that is given, ends the journal, and is the pass's last receipt.
pub record IsMade {K T F I : Type 0} (g : Procedures K T F I) (h : History K T F I) (p : Passed K) (event : Event K) (answer : Answer) (h' : History K T F I) (p' : Passed K) : Type 0 where
  pub step : Step g h.state event answer h'.state
  pub first : h'.first ≡ h.first
  pub journal : h'.journal ≡ with_entry h.journal (entered (length (whole h.journal) + 1) p.seat event answer)
  pub receipts : p'.receipts ≡ p.receipts ++ entered (length (whole h.journal) + 1) p.seat event answer ∷ []
  pub seat : p'.seat ≡ p.seat

-- of these places of the open segment, used and reserved, fewer are left than a start may come to take
abbrev pub IsFull : ℕ → ℕ → Type 0
IsFull used reserved = most_entries < used + reserved + places_of_start

-- The fault of a start that makes no step, beside this journal and so many reserved places, with a pass of these receipts: it is out of
-- memory; the pass is a stranger's; or the open segment is full.
abbrev pub IsNotAdmitted : {K : Type 0} → Journal K → ℕ → List (Entry K) → Fault → Type 0
IsNotAdmitted journal reserved receipts Memory = IsKnown (whole journal) receipts × (IsFull (length journal.unsealed) reserved → ⊥)
IsNotAdmitted journal reserved receipts (Refused status) =
    ((status ≡ InvalidParameter) × (IsKnown (whole journal) receipts → ⊥))
    ⊎ ((status ≡ JournalFull) × IsKnown (whole journal) receipts × IsFull (length journal.unsealed) reserved)

-- The fault of a resume that makes no step: it is out of memory; or its pass or its parse is a stranger's.
abbrev pub IsNotResumed : {K T F I : Type 0} → Procedures K T F I → History K T F I → Passed K → ToRun F → Fault → Type 0
IsNotResumed g h p asked Memory = IsKnown (whole h.journal) p.receipts × IsAwaited g h.state asked
IsNotResumed g h p asked (Refused status) =
    (status ≡ InvalidParameter) × ((IsKnown (whole h.journal) p.receipts → ⊥) ⊎ (IsKnown (whole h.journal) p.receipts × (IsAwaited g h.state asked → ⊥)))

-- the open segment is sealed: an empty one is open, and nothing else has changed
abbrev pub sealed_then : {K T F I : Type 0} → History K T F I → History K T F I
sealed_then h = record h { journal = with_seal h.journal }

-- a journal may be sealed: its open segment has an entry, and fewer segments are sealed than may be
abbrev pub MaySeal : {K : Type 0} → Journal K → Type 0
MaySeal j = (j.unsealed ≡ [] → ⊥) × (length j.sealed < most_sealed)

-- The fault of a seal that seals nothing: the open segment is empty; as many segments are sealed as may be; or it is out of memory.
abbrev pub IsNotSealed : {K : Type 0} → Journal K → Fault → Type 0
IsNotSealed j Memory = MaySeal j
IsNotSealed j (Refused status) =
    ((status ≡ InvalidParameter) × (j.unsealed ≡ []))
    ⊎ ((status ≡ InsufficientResources) × (j.unsealed ≡ [] → ⊥) × (length j.sealed ≡ most_sealed))
