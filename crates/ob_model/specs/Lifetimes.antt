-- Lifetimes: what holds of the calls on one object, in every run. The calls themselves are defined in `Calls`.
--
-- Source: Windows Internals, Object Manager (open, close and delete methods; object retention: handle and
-- reference counts).
use Rattle.std.specs.Prelude.{◌≡◌, ℕ, ◌+◌, Bool, true, false, List, [], ◌∷◌, ◌++◌, count_by, ◌⊎◌}
use Rattle.std.specs.Option.{option_map_or}
use Rattle.ob_model.specs.declared.reply.Event.{Event}
use Rattle.ob_model.specs.declared.reply.Event.TheVariants.{Start, Resume, Abandon}
use Rattle.ob_model.specs.State.{State, handle_count_in}
use Rattle.ob_model.specs.PendingOpens.{pending_of}
use Rattle.ob_model.specs.Settle.{is_pinned}
use Rattle.ob_model.specs.Calls.{Call, Opened, Closed, Deleted, Passed, calls_of_step}

-- how many accepted opens are among these calls, and how many closes
abbrev pub is_open : Call → Bool
is_open (Opened reason) = true
is_open (Closed process_left system_left) = false
is_open Deleted = false

abbrev pub is_close : Call → Bool
is_close (Opened reason) = false
is_close (Closed process_left system_left) = true
is_close Deleted = false

abbrev pub opens : List Call → ℕ
opens calls = count_by is_open calls

abbrev pub closings : List Call → ℕ
closings calls = count_by is_close calls

-- each close is given, as the handles that are left in the system, the accepted opens before it less the closes up to
-- and with it
abbrev pub ClosesAreCounted : List Call → Type 0
ClosesAreCounted calls =
    (before behind : List Call) (process_left system_left : ℕ) → calls ≡ before ++ Closed process_left system_left ∷ behind
    → system_left + (closings before + 1) ≡ opens before

-- a delete is the last call, after a close with no handle left in the system, or where no open was accepted at all
abbrev pub DeleteIsLast : List Call → Type 0
DeleteIsLast calls =
    (before behind : List Call) → calls ≡ before ++ Deleted ∷ behind
    → (behind ≡ []) × ((opens before ≡ 0) ⊎ ((front : List Call) × (process_left : ℕ) × (before ≡ front ++ Closed process_left 0 ∷ [])))

module _ {K T F I : Type 0} where
  -- the process for which a step is made
  abbrev pub maker_of : State K T F I → Event K → ℕ
  maker_of s (Start p command) = p
  maker_of s (Resume ticket parse) = option_map_or (λ x. x.process) (pending_of s ticket) 0
  maker_of s (Abandon ticket parse) = option_map_or (λ x. x.process) (pending_of s ticket) 0

  abbrev pub calls_in : State K T F I → Passed K T F I → ℕ → List Call
  calls_in s x o = calls_of_step s x.entry.event x.outcome x.entry.answer x.after o

  -- This holds of the calls of one step, from the state s. Each close is given, as the handles that are left in its
  -- process, those that the step leaves there and those that it closes after this one. No pending open pins what is
  -- deleted.
  pub record StepKeepsCount (o : ℕ) (s : State K T F I) (x : Passed K T F I) : Type 0 where
    pub process_left :
        (before behind : List Call) (process_left system_left : ℕ) → calls_in s x o ≡ before ++ Closed process_left system_left ∷ behind
        → process_left ≡ handle_count_in x.after (maker_of s x.entry.event) o + closings behind
    pub unpinned : (before behind : List Call) → calls_in s x o ≡ before ++ Deleted ∷ behind → is_pinned x.after o ≡ false

  -- something holds of each of these steps, from the state s on
  abbrev pub AtEachStep : (State K T F I → Passed K T F I → Type 0) → State K T F I → List (Passed K T F I) → Type 0
  AtEachStep Holds s [] = Unit {0}
  AtEachStep Holds s (x ∷ xs) = Holds s x × AtEachStep Holds x.after xs
