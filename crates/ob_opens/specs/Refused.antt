-- The ends of a parse that lead to nothing to open.
--
-- Source: this profile.
use Rattle.std.specs.Prelude.{ℕ, Bool, true, false, Option, None, Some}
use Rattle.ob_base.specs.declared.status.Status.{Status}
use Rattle.ob_base.specs.declared.status.Status.TheVariants.{NoMemory, ProcessGone, TypeRefused}
use Rattle.ob_model.specs.Procedures.{ParseOutcome, EndsRefused}

-- a refusal with a number, or no memory
abbrev pub refusal_of : {F I : Type 0} → Option ℕ → Option (ParseOutcome F I)
refusal_of None = None
refusal_of (Some k) = Some (EndsRefused k)

-- the status for it to a process, live or not
abbrev pub status_of : Bool → Option ℕ → Status
status_of false code = ProcessGone
status_of true None = NoMemory
status_of true (Some k) = TypeRefused k
