-- How a handle gets another inherit flag, by steps that exist: it is duplicated with the flag, and closed; the duplicate is
-- duplicated too, to the value that the handle had, and closed.
--
-- Source: ZwSetInformationObject (Windows Driver Kit), ObjectHandleFlagInformation; that it is made of these steps is this
-- profile.
use Rattle.std.specs.Prelude.{◌≡◌, ◌≢◌, ℕ, Bool, ◌⊎◌, Option, None, Some, MatchBool, MatchOption}
use Rattle.std.specs.Bool.{beq}
use Rattle.std.specs.Option.{option_and_then}
use Rattle.ob_base.specs.Handle.{key_of}
use Rattle.ob_base.specs.declared.status.Status.{Status}
use Rattle.ob_base.specs.declared.status.Status.TheVariants.{InvalidParameter, NoMemory, Success}
use Rattle.ob_model.specs.Alike.{handle_in}
use Rattle.ob_model.specs.Procedures.{Procedures}
use Rattle.ob_model.specs.State.{State, held_of}
use Rattle.ob_model.specs.Step.{Step}
use Rattle.ob_model.specs.declared.command.Command.TheVariants.{Close, Duplicate}
use Rattle.ob_model.specs.declared.reply.Answer.TheVariants.{Done}
use Rattle.ob_model.specs.declared.reply.Event.TheVariants.{Start}
use Rattle.ob_model.specs.declared.reply.Reply.{Reply}
use Rattle.ob_c_state.specs.Machine.{Space, host}

module _ {K T F I : Type 0} (g : Procedures K T F I) where
  -- a process duplicates a handle for itself, with this inherit flag, and is given this value
  pub record IsDuplicated (s : State K T F I) (p handle : ℕ) (inherit : Bool) (value : ℕ) (t : State K T F I) : Type 0 where
    pub reply : Reply
    pub step : Step g s (Start p (Duplicate handle p inherit)) (Done reply) t
    pub given : handle_in reply.given ≡ Some value

  -- a process closes a handle
  pub record IsClosed (s : State K T F I) (p handle : ℕ) (t : State K T F I) : Type 0 where
    pub reply : Reply
    pub step : Step g s (Start p (Close handle)) (Done reply) t
    pub done : reply.status ≡ Success

  -- either step may be refused, with this status
  pub record DuplicateIsRefused (s : State K T F I) (p handle : ℕ) (inherit : Bool) (status : Status) : Type 0 where
    pub reply : Reply
    pub left : State K T F I
    pub step : Step g s (Start p (Duplicate handle p inherit)) (Done reply) left
    pub none : handle_in reply.given ≡ None
    pub is : reply.status ≡ status

  pub record CloseIsRefused (s : State K T F I) (p handle : ℕ) (status : Status) : Type 0 where
    pub reply : Reply
    pub left : State K T F I
    pub step : Step g s (Start p (Close handle)) (Done reply) left
    pub is : reply.status ≡ status
    pub other : status ≢ Success

  -- the first two steps: in place of a handle the process has a duplicate of it, under this value
  pub record IsReplaced (s : State K T F I) (p handle : ℕ) (inherit : Bool) (value : ℕ) (t : State K T F I) : Type 0 where
    pub between : State K T F I
    pub duplicated : IsDuplicated s p handle inherit value between
    pub closed : IsClosed between p handle t

  -- all four: the duplicate is replaced too, by one under the value that the handle had
  pub record HasFlagSet (s : State K T F I) (p handle : ℕ) (inherit : Bool) (t : State K T F I) : Type 0 where
    pub key : ℕ
    pub is_key : key_of handle ≡ Some key
    pub value : ℕ
    pub replaced : State K T F I
    pub first : IsReplaced s p handle inherit value replaced
    pub second : IsReplaced replaced p value inherit key t

  -- one of the four is refused with this status, after those before it
  pub data FlagIsRefused (s : State K T F I) (p handle : ℕ) (inherit : Bool) (status : Status) : Type 0 where
    at_first : DuplicateIsRefused s p handle inherit status → FlagIsRefused s p handle inherit status
    at_second : (value : ℕ) (t : State K T F I) → IsDuplicated s p handle inherit value t → CloseIsRefused t p handle status → FlagIsRefused s p handle inherit status
    at_third : (value : ℕ) (t : State K T F I) → IsReplaced s p handle inherit value t → DuplicateIsRefused t p value inherit status → FlagIsRefused s p handle inherit status
    at_fourth : (key value : ℕ) (t u : State K T F I) → key_of handle ≡ Some key → IsReplaced s p handle inherit value t → IsDuplicated t p value inherit key u
        → CloseIsRefused u p value status → FlagIsRefused s p handle inherit status

-- a handle with the other flag: the steps are made; or one is refused, or memory runs out, and then nothing has changed
abbrev pub SetsFlag : ℕ → ℕ → Bool → Space → Status → Space → Type 0
SetsFlag p handle inherit s status t =
    ((status ≡ Success) × HasFlagSet host s p handle inherit t) ⊎ ((t ≡ s) × ((status ≡ NoMemory) ⊎ FlagIsRefused host s p handle inherit status))

-- The inherit flag of a handle is set. Where the process has no such handle the first step is refused; where the flag is as
-- asked already no step is made; and in either case nothing changes.
abbrev pub SetsInherit : ℕ → ℕ → Bool → Space → Status → Space → Type 0
SetsInherit p handle inherit s status t =
    MatchOption (option_and_then (held_of s p) (key_of handle)) ((t ≡ s) × DuplicateIsRefused host s p handle inherit status)
    (λ h. MatchBool (beq h.inherit inherit) ((status ≡ Success) × (t ≡ s)) (SetsFlag p handle inherit s status t))

-- the same in a namespace that may be closed, which refuses it and stays closed, with such a report
abbrev pub SetsInheritIn : ℕ → ℕ → Bool → (old new : Option Space) → (Status → Type 0) → Type 0
SetsInheritIn p handle inherit None new reports = (new ≡ None) × reports InvalidParameter
SetsInheritIn p handle inherit (Some s) new reports = (status : Status) × (t : Space) × (new ≡ Some t) × SetsInherit p handle inherit s status t × reports status
