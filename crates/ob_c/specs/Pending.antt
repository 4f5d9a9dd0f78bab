-- The report of an open in two phases: a handle at once, or the device or key that it met, with the rest of its name.
--
-- Source: Windows Internals, Object Manager (parse methods); STATUS_PENDING (the Windows Driver Kit's "NTSTATUS values"); tickets
-- and the form of the report are this profile.
use Rattle.std.specs.Prelude.{◌≡◌, ℕ, zero, suc, Bool, List, ◌++◌, ◌⊎◌, length, drop, nat_le, Option, None, Some, Result, Ok, Err, MatchBool}
use Rattle.ob_base.specs.Status.{code_of}
use Rattle.ob_base.specs.declared.status.Status.{Status}
use Rattle.ob_base.specs.declared.status.Status.TheVariants.{Success, InvalidParameter, BufferTooSmall}
use Rattle.ob_host.specs.Kept.{Kept}
use Rattle.ob_host.specs.declared.kind.Kind.{Kind}
use Rattle.ob_host.specs.declared.object.HostObject.{HostObject}
use Rattle.ob_model.specs.PendingOpens.{pending_of}
use Rattle.ob_model.specs.Refusals.{answers}
use Rattle.ob_model.specs.State.{body_of}
use Rattle.ob_model.specs.Step.{Step}
use Rattle.ob_model.specs.declared.command.Command.{Command}
use Rattle.ob_model.specs.declared.reply.Event.TheVariants.{Abandon}
use Rattle.ob_model.specs.declared.reply.ParseRun.TheVariants.{Unrun}
use Rattle.ob_model.specs.declared.reply.Reply.{Reply}
use Rattle.ob_model.specs.declared.state.Body.{Body}
use Rattle.ob_model.specs.declared.state.PendingOpen.{PendingOpen}
use Rattle.ob_numbers.specs.Types.{type_of_kind}
use Rattle.ob_runner.specs.declared.begun.Begun.{Begun}
use Rattle.ob_runner.specs.declared.begun.Begun.TheVariants.{Replied, Waits}
use Rattle.ob_c_state.specs.Machine.{Space, host}
use Rattle.ob_c_state.specs.Pending.{BeginsOpen}
use Rattle.ob_c.specs.Referents.{id_of_body, type_of_body, user_data_of_body}
use Rattle.ob_c_state.specs.Reports.{ReportsHandle}
use Rattle.ob_c.specs.declared.pending.BegunOpen.{BegunOpen}

-- the number of STATUS_PENDING
abbrev pub pending_code : ℕ
pending_code = 259

-- the open of a ticket that is pending at an object of this body
abbrev pub pending_reported : (ticket : ℕ) → (object : ℕ) → Body HostObject Kept → BegunOpen
pending_reported ticket object body =
    record { ticket = ticket; id = id_of_body object body; user_data = user_data_of_body body; number = type_of_body body }

-- the fields where no open is pending
abbrev pub no_pending : BegunOpen
no_pending = record { ticket = 0; id = 0; user_data = 0; number = 0 }

-- the rest of a pending open is written to the beginning of a buffer if it fits, and its length is reported
abbrev pub CopiesRest : Option (PendingOpen Kind) → (fits : Bool) → (old new : List ℕ) → (needed : ℕ) → Type 0
CopiesRest None fits old new needed = ⊥
CopiesRest (Some x) fits old new needed =
    (needed ≡ length x.rest) × (fits ≡ nat_le (length x.rest) (length old)) × MatchBool fits (new ≡ x.rest ++ drop (length x.rest) old) (new ≡ old)

-- The open of a ticket that is pending in a state t is reported, with the object that it met: its rest is written to the beginning
-- of a buffer. In one that is too small nothing is written, and the open is abandoned.
abbrev pub ReportsPending : Space → (ticket : ℕ) → Space → (status : ℕ) → BegunOpen → (old new : List ℕ) → ℕ → Type 0
ReportsPending t ticket u status reported old new needed =
    (x : PendingOpen Kind) × (body : Body HostObject Kept) × (pending_of t ticket ≡ Some x) × (body_of t x.object ≡ Some body) × (needed ≡ length x.rest)
    × MatchBool (nat_le (length x.rest) (length old))
    ((u ≡ t) × (status ≡ pending_code) × (reported ≡ pending_reported ticket x.object body) × (new ≡ x.rest ++ drop (length x.rest) old))
    (Step host t (Abandon ticket Unrun) (answers Success) u × (status ≡ code_of BufferTooSmall) × (reported ≡ no_pending) × (new ≡ old))

-- an open that isn't pending is reported by its handle
abbrev pub ReportsNotPending : Result Reply Status → Space → Space → (status handle : ℕ) → BegunOpen → (old new : List ℕ) → ℕ → Type 0
ReportsNotPending ended t u status handle reported old new needed =
    (u ≡ t) × ReportsHandle status handle ended × (reported ≡ no_pending) × (new ≡ old) × (needed ≡ 0)

-- the report of an open that was begun, in the state t that this led to
abbrev pub ReportsBegun : Result Begun Status → Space → Space → (status handle : ℕ) → BegunOpen → (old new : List ℕ) → ℕ → Type 0
ReportsBegun (Ok (Replied reply)) t u status handle reported old new needed = ReportsNotPending (Ok reply) t u status handle reported old new needed
ReportsBegun (Ok (Waits ticket)) t u status handle reported old new needed = (handle ≡ 0) × ReportsPending t ticket u status reported old new needed
ReportsBegun (Err why) t u status handle reported old new needed = ReportsNotPending (Err why) t u status handle reported old new needed

-- a refusal before an open was begun, which changes nothing
abbrev pub RefusesBegin : (old new : Option Space) → (status handle : ℕ) → BegunOpen → (was is : List ℕ) → ℕ → Type 0
RefusesBegin old new status handle reported was is needed =
    (new ≡ old) × (status ≡ code_of InvalidParameter) × (handle ≡ 0) × (reported ≡ no_pending) × (is ≡ was) × (needed ≡ 0)

-- an open of a process is begun and reported, in a namespace that may be closed
abbrev pub ReportsBegin : ℕ → Command Kind → (old new : Option Space) → (status handle : ℕ) → BegunOpen → (was is : List ℕ) → ℕ → Type 0
ReportsBegin p command None new status handle reported was is needed = RefusesBegin None new status handle reported was is needed
ReportsBegin p command (Some s) new status handle reported was is needed =
    (begun : Result Begun Status) × (t : Space) × (u : Space) × BeginsOpen p command s begun t × (new ≡ Some u) × ReportsBegun begun t u status handle reported was is needed

-- the same of an open of the kind of a number, or of any type, which is the number 0; any other number is refused
abbrev pub ReportsBeginOfAnyType : ℕ → ℕ → (Option Kind → Command Kind) → (old new : Option Space) → (status handle : ℕ) → BegunOpen → (was is : List ℕ) → ℕ → Type 0
ReportsBeginOfAnyType zero p command old new status handle reported was is needed = ReportsBegin p (command None) old new status handle reported was is needed
ReportsBeginOfAnyType (suc n) p command old new status handle reported was is needed =
    ((kind : Kind) × (suc n ≡ type_of_kind kind) × ReportsBegin p (command (Some kind)) old new status handle reported was is needed)
    ⊎ (((kind : Kind) → suc n ≡ type_of_kind kind → ⊥) × RefusesBegin old new status handle reported was is needed)
