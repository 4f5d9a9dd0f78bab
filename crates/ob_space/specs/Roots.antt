-- The object of a root handle.
use Rattle.std.specs.Prelude.{ℕ, Option, None, Some}
use Rattle.std.specs.Option.{option_and_then, option_map}
use Rattle.ob_base.specs.Handle.{key_of}
use Rattle.ob_model.specs.State.{State, held_of}

-- the object that a name is relative to: no object where no handle is given, and nothing where the
-- process has no such handle
abbrev pub root_of : {K T F I : Type 0} → State K T F I → ℕ → (root : Option ℕ) → Option (Option ℕ)
root_of s p None = Some None
root_of s p (Some handle) = option_map (λ h. Some h.object) (option_and_then (held_of s p) (key_of handle))
