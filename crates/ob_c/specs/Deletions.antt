-- The reports of the objects that were deleted, one after another.
--
-- Source: this profile.
use Rattle.std.specs.Prelude.{◌≡◌, ℕ, if◌then◌else◌, Option, None, Some}
use Rattle.ob_base.specs.Status.{code_of}
use Rattle.ob_base.specs.declared.status.Status.TheVariants.{Success, InvalidParameter, NoMoreEntries}
use Rattle.ob_types.specs.Unnoticed.{with_change}
use Rattle.ob_host.specs.Deletions.{next_deletion, behind_next}
use Rattle.ob_host.specs.declared.deletion.HostDeletion.{HostDeletion}
use Rattle.ob_c_state.specs.Machine.{Space}
use Rattle.ob_numbers.specs.Types.{type_of_kind}
use Rattle.ob_c.specs.declared.deletions.Deletion.{Deletion}

-- a deletion as a caller in C reads it: the id is the serial that the object's first open drew, 0 if it was never opened
abbrev pub deletion_reported : HostDeletion → Deletion
deletion_reported deletion =
    record { number = type_of_kind deletion.kind; user_data = deletion.user_data; id = deletion.serial; parsed = if deletion.parsed then 1 else 0 }

-- the fields where there is none
abbrev pub no_deletion : Deletion
no_deletion = record { number = 0; user_data = 0; id = 0; parsed = 0 }

-- A deletion is reported, and no more; or none is left, and nothing changes.
abbrev pub ReportsNext : Option HostDeletion → Space → (new : Option Space) → (status : ℕ) → Deletion → Type 0
ReportsNext None s new status reported = (new ≡ Some s) × (status ≡ code_of NoMoreEntries) × (reported ≡ no_deletion)
ReportsNext (Some deletion) s new status reported = (new ≡ Some (with_change behind_next s)) × (status ≡ code_of Success) × (reported ≡ deletion_reported deletion)

-- the first deletion that wasn't reported yet, in a namespace that may be closed
abbrev pub ReportsDeletion : (old new : Option Space) → (status : ℕ) → Deletion → Type 0
ReportsDeletion None new status reported = (new ≡ None) × (status ≡ code_of InvalidParameter) × (reported ≡ no_deletion)
ReportsDeletion (Some s) new status reported = ReportsNext (next_deletion s.set) s new status reported
