-- Exclusive objects: all handles of each are in one process, and no child inherits one.
--
-- Sources: OBJECT_ATTRIBUTES structure (OBJ_EXCLUSIVE, OBJ_INHERIT; Windows Driver Kit).
use Rattle.std.specs.Prelude.{◌≡◌, true, false, All, AllPairs}
use Rattle.ob_model.specs.State.{State}
use Rattle.ob_model.specs.Grants.{is_exclusive}

-- This holds of exclusive objects in every state of a run.
pub record AreAlone {K T F I : Type 0} (s : State K T F I) : Type 0 where
  pub alone : AllPairs (λ a b. a.object ≡ b.object → is_exclusive s a.object ≡ true → a.process ≡ b.process) s.handles
  pub kept_back : All (λ h. h.inherit ≡ true → is_exclusive s h.object ≡ false) s.handles
