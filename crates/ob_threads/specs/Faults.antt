-- The faults of the calls by which a seat makes its steps.
--
-- Source: this profile.
use Rattle.std.specs.Prelude.{◌⊎◌}
use Rattle.ob_base.specs.declared.fault.Fault.{Fault}
use Rattle.ob_types.specs.Parse.{HasRun}
use Rattle.ob_standard.specs.Standard.{StandardKind, StandardFace, StandardInner, standard}
use Rattle.ob_locked.specs.Passed.{Passed}
use Rattle.ob_shared.specs.Told.{IsCutOff, IsNotStarted}

-- A call that gave back this pass had this fault: a start made no step, for a reason that held in a run; or a resume
-- made none, and its open was given up there and then.
abbrev pub IsFaultAt : Passed StandardKind → Fault → Type 0
IsFaultAt p' fault =
    IsNotStarted standard p' fault ⊎ ((p : Passed StandardKind) × (parsed : HasRun StandardFace StandardInner) × IsCutOff standard p parsed fault p')
