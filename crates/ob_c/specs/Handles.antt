-- The reports of handles, and of live processes, one after another.
--
-- Sources: NtQueryObject (ObjectBasicInformation: attributes and the count of handles) and NtQuerySystemInformation (Windows); user
-- data, ids and contexts are this profile.
use Rattle.std.specs.Prelude.{◌≡◌, ℕ, nat_lt, Bool, if◌then◌else◌, Option, None, Some, MatchOption}
use Rattle.std.specs.Option.{option_and_then}
use Rattle.ob_base.specs.Handle.{key_of}
use Rattle.ob_base.specs.Status.{code_of}
use Rattle.ob_base.specs.declared.status.Status.{Status}
use Rattle.ob_base.specs.declared.status.Status.TheVariants.{Success, InvalidHandle, InvalidParameter, NoMoreEntries}
use Rattle.ob_core.specs.Listed.{handle_after, process_after}
use Rattle.ob_host.specs.Kept.{Kept}
use Rattle.ob_host.specs.declared.object.HostObject.{HostObject}
use Rattle.ob_model.specs.Grants.{is_exclusive}
use Rattle.ob_model.specs.Settle.{is_permanent}
use Rattle.ob_model.specs.State.{body_of, handle_count, held_of}
use Rattle.ob_model.specs.declared.state.Body.{Body}
use Rattle.ob_model.specs.declared.state.Held.{Held}
use Rattle.ob_c_state.specs.Machine.{Space}
use Rattle.ob_c.specs.Referents.{id_of_body, type_of_body, user_data_of_body}
use Rattle.ob_c.specs.declared.listing.HandleRow.{HandleRow}

-- a flag as a caller in C reads it
abbrev pub flag_reported : Bool → ℕ
flag_reported b = if b then 1 else 0

-- a count as a caller in C reads it: at most the greatest number of 32 bits
abbrev pub count_reported : ℕ → ℕ
count_reported n = if nat_lt 4294967295 n then 4294967295 else n

-- a handle to an object of this body; the handles to it are those of all processes
abbrev pub handle_reported : Space → Held → Body HostObject Kept → HandleRow
handle_reported s h body = record {
  value = h.value;
  number = type_of_body body;
  user_data = user_data_of_body body;
  id = id_of_body h.object body;
  inherit = flag_reported h.inherit;
  permanent = flag_reported (is_permanent s h.object);
  exclusive = flag_reported (is_exclusive s h.object);
  handles = count_reported (handle_count s h.object);
}

-- the fields where there is none
abbrev pub no_handle : HandleRow
no_handle = record { value = 0; number = 0; user_data = 0; id = 0; inherit = 0; permanent = 0; exclusive = 0; handles = 0 }

-- a handle is reported with what its object is; or none, by this refusal
abbrev pub ReportsHeld : Space → Option Held → (refusal : Status) → (status : ℕ) → HandleRow → Type 0
ReportsHeld s None refusal status reported = (status ≡ code_of refusal) × (reported ≡ no_handle)
ReportsHeld s (Some h) refusal status reported =
    (status ≡ code_of Success) × ((body : Body HostObject Kept) × (body_of s h.object ≡ Some body) × (reported ≡ handle_reported s h body))

-- the handle of a value of a process, whose low two bits are ignored, in a namespace that may be closed
abbrev pub ReportsHandleOf : Option Space → (process value : ℕ) → (status : ℕ) → HandleRow → Type 0
ReportsHandleOf None p value status reported = (status ≡ code_of InvalidParameter) × (reported ≡ no_handle)
ReportsHandleOf (Some s) p value status reported = ReportsHeld s (option_and_then (held_of s p) (key_of value)) InvalidHandle status reported

-- the context after a handle: its order of opening; it stays where there is none
abbrev pub context_after : ℕ → Option Held → ℕ
context_after context None = context
context_after context (Some h) = h.order

-- the first handle of a process that was opened after a context, in a namespace that may be closed
abbrev pub ReportsNextHandle : Option Space → (process old new : ℕ) → (status : ℕ) → HandleRow → Type 0
ReportsNextHandle None p old new status reported = (status ≡ code_of InvalidParameter) × (reported ≡ no_handle) × (new ≡ old)
ReportsNextHandle (Some s) p old new status reported =
    ReportsHeld s (handle_after s p old) NoMoreEntries status reported × (new ≡ context_after old (handle_after s p old))

-- the live process of the least number above another; that stays where there is none
abbrev pub ReportsNextIn : Space → (old new : ℕ) → (status : ℕ) → Type 0
ReportsNextIn s old new status =
    MatchOption (process_after s old) ((status ≡ code_of NoMoreEntries) × (new ≡ old)) (λ p. (status ≡ code_of Success) × (new ≡ p))

-- the same in a namespace that may be closed
abbrev pub ReportsNextProcess : Option Space → (old new : ℕ) → (status : ℕ) → Type 0
ReportsNextProcess None old new status = (status ≡ code_of InvalidParameter) × (new ≡ old)
ReportsNextProcess (Some s) old new status = ReportsNextIn s old new status
