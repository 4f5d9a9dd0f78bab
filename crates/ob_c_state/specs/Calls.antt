-- A call of a caller in C runs a command of a process to its reply in an open namespace.
--
-- Source: Windows Internals, Object Manager (parse methods), for opens that are run on; that a closed namespace refuses,
-- and that a call reports that it is out of memory, are this profile.
use Rattle.std.specs.Prelude.{◌≡◌, ℕ, zero, suc, Bool, true, false, List, ◌⊎◌, Option, None, Some, Result, Ok, Err}
use Rattle.std.specs.Int.{w64, to_le_bytes}
use Rattle.ob_base.specs.declared.status.Status.{Status}
use Rattle.ob_base.specs.declared.status.Status.TheVariants.{Success, InvalidParameter, NoMemory}
use Rattle.ob_base.specs.Status.{code_of}
use Rattle.ob_model.specs.Opening.{opening}
use Rattle.ob_model.specs.declared.command.Command.{Command}
use Rattle.ob_model.specs.declared.command.Command.TheVariants.{CreateDirectory, CreateShadowed, CreateLink, CreateObject, OpenDirectory, OpenLink, OpenObject, Close, QueryLink, QueryName, QueryDirectory, Duplicate, MakeTemporary, MakePermanent, SetDeviceMap, NewProcess, ExitProcess}
use Rattle.ob_model.specs.declared.command.Place.{Place}
use Rattle.ob_model.specs.declared.command.Place.TheVariants.{At, Unnamed}
use Rattle.ob_model.specs.declared.reply.Answer.TheVariants.{Done}
use Rattle.ob_model.specs.declared.reply.Event.TheVariants.{Start}
use Rattle.ob_model.specs.declared.reply.Reply.{Reply}
use Rattle.ob_model.specs.Step.{Step}
use Rattle.ob_runner.specs.Completes.{Made, Completes, MayFalter, Falters}
use Rattle.ob_runner.specs.Opens.{is_open}
use Rattle.ob_host.specs.Deletions.{unused}
use Rattle.ob_host.specs.declared.kind.Kind.{Kind}
use Rattle.ob_c_state.specs.Machine.{Space, host}
use Rattle.ob_numbers.specs.Types.{type_of_kind}

-- a handle that a name is relative to: 0 is none
abbrev pub root_of : ℕ → Option ℕ
root_of zero = None
root_of (suc n) = Some (suc n)

-- the place of a create, with a name and without one
abbrev pub place_of : (named : Bool) → ℕ → List ℕ → Place
place_of true root name = At (root_of root) name
place_of false root name = Unnamed

-- the arguments of an object with user data: its eight bytes, the lowest first
abbrev pub arguments_of : ℕ → List ℕ
arguments_of user_data = to_le_bytes w64 user_data

-- a command is handed in with bytes, of which a copy is made
abbrev pub HasBytes : Command Kind → Type 0
HasBytes (CreateDirectory where_to attrs) = Unit {0}
HasBytes (CreateShadowed where_to attrs shadow) = Unit {0}
HasBytes (CreateLink where_to attrs target) = Unit {0}
HasBytes (CreateObject where_to attrs kind args) = Unit {0}
HasBytes (OpenDirectory root name attrs) = Unit {0}
HasBytes (OpenLink root name attrs) = Unit {0}
HasBytes (OpenObject root name attrs want) = Unit {0}
HasBytes (Close handle) = ⊥
HasBytes (QueryLink handle) = ⊥
HasBytes (QueryName handle) = ⊥
HasBytes (QueryDirectory handle context room single restart) = ⊥
HasBytes (Duplicate handle to inherit) = ⊥
HasBytes (MakeTemporary handle) = ⊥
HasBytes (MakePermanent handle) = ⊥
HasBytes (SetDeviceMap handle) = ⊥
HasBytes (NewProcess inherit) = ⊥
HasBytes ExitProcess = ⊥

-- A command of a process has this reply: an open by its steps, and any other by one.
abbrev pub Runs : ℕ → Command Kind → (waits : Bool) → Space → Reply → Space → Type 0
Runs p command true s reply t = (steps : List (Made Kind)) × Completes host (Start p command) steps s reply t
Runs p command false s reply t = Step host s (Start p command) (Done reply) t

-- A command is out of memory: an open before its first step, or after steps, and then it is abandoned; any other before
-- its one step, and nothing has changed.
abbrev pub Wants : ℕ → Command Kind → (waits : Bool) → Space → Space → Type 0
Wants p command true s t = (steps : List (Made Kind)) × Falters host (Start p command) steps s t
Wants p command false s t = (t ≡ s) × MayFalter host s (Start p command)

-- A command of a process is run to its reply; or it is out of memory, in its steps, or for a copy of the bytes that it
-- is handed in with, and then nothing has changed.
abbrev pub Ends : ℕ → Command Kind → Space → Result Reply Status → Space → Type 0
Ends p command s (Ok reply) t = Runs p command (is_open command) s reply t
Ends p command s (Err status) t = (status ≡ NoMemory) × (Wants p command (is_open command) s t ⊎ (HasBytes command × (t ≡ s)))

-- the same in a namespace that may be closed, which refuses it and stays closed
abbrev pub Calls : ℕ → Command Kind → Option Space → Result Reply Status → Option Space → Type 0
Calls p command None ended new = (ended ≡ Err InvalidParameter) × (new ≡ None)
Calls p command (Some s) ended new = (t : Space) × (new ≡ Some t) × Ends p command s ended t

-- a call does this command, and makes such a report of how it ends
abbrev pub Does : ℕ → Command Kind → (old new : Option Space) → (Result Reply Status → Type 0) → Type 0
Does p command old new reports = (ended : Result Reply Status) × Calls p command old ended new × reports ended

-- a command that was to be made of bytes of the caller's: it is run, or no memory was left for a copy of these
abbrev pub EndsMade : {E : Type 0} → ℕ → Result (Command Kind) E → Space → Result Reply Status → Space → Type 0
EndsMade p (Ok command) s ended t = Ends p command s ended t
EndsMade p (Err e) s ended t = (ended ≡ Err NoMemory) × (t ≡ s)

abbrev pub CallsMade : {E : Type 0} → ℕ → Result (Command Kind) E → Option Space → Result Reply Status → Option Space → Type 0
CallsMade p made None ended new = (ended ≡ Err InvalidParameter) × (new ≡ None)
CallsMade p made (Some s) ended new = (t : Space) × (new ≡ Some t) × EndsMade p made s ended t

-- A call does the command of the kind that has this number; if none has it, the call is refused and nothing changes.
abbrev pub DoesOfType : ℕ → ℕ → (Kind → Command Kind) → (old new : Option Space) → (Result Reply Status → Type 0) → Type 0
DoesOfType type p command old new reports =
    ((kind : Kind) × (type ≡ type_of_kind kind) × Does p (command kind) old new reports)
    ⊎ (((kind : Kind) → type ≡ type_of_kind kind → ⊥) × (new ≡ old) × reports (Err InvalidParameter))

-- the same, where the number 0 is any type
abbrev pub DoesOfAnyType : ℕ → ℕ → (Option Kind → Command Kind) → (old new : Option Space) → (Result Reply Status → Type 0) → Type 0
DoesOfAnyType zero p command old new reports = Does p (command None) old new reports
DoesOfAnyType (suc n) p command old new reports = DoesOfType (suc n) p (λ kind. command (Some kind)) old new reports

-- a closed namespace is opened in a state, or the call is out of memory and it stays closed
abbrev pub OpensIn : Space → (new : Option Space) → ℕ → Type 0
OpensIn s new status = ((new ≡ Some s) × (status ≡ code_of Success)) ⊎ ((new ≡ None) × (status ≡ code_of NoMemory))

-- a closed namespace is opened in the opening state; an open one is refused and stays as it is
abbrev pub IsOpened : (old new : Option Space) → ℕ → Type 0
IsOpened None new status = OpensIn (opening unused) new status
IsOpened (Some s) new status = (new ≡ Some s) × (status ≡ code_of InvalidParameter)

-- a closed namespace is opened in the state of another; an open one, and a copy of a closed one, are refused and nothing
-- changes
abbrev pub IsCopied : (from old new : Option Space) → ℕ → Type 0
IsCopied (Some s) None new status = OpensIn s new status
IsCopied None None new status = (new ≡ None) × (status ≡ code_of InvalidParameter)
IsCopied from (Some t) new status = (new ≡ Some t) × (status ≡ code_of InvalidParameter)
