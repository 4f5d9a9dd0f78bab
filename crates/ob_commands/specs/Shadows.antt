-- The refusals of a shadow that a create is given.
use Rattle.std.specs.Prelude.{ℕ, Option, Some}
use Rattle.std.specs.Option.{option_and_then, option_map_or}
use Rattle.ob_base.specs.declared.status.Status.{Status}
use Rattle.ob_base.specs.declared.status.Status.TheVariants.{InvalidHandle}
use Rattle.ob_model.specs.State.{State}
use Rattle.ob_model.specs.Grants.{first_refusal}
use Rattle.ob_model.specs.Step.{shadow_refusals}
use Rattle.ob_space.specs.Roots.{root_of}

-- the refusal of the handle to a shadow, where one is given: the process has no such handle, or its object can be no shadow
abbrev pub shadow_refusal : {K T F I : Type 0} → State K T F I → ℕ → (shadow : Option ℕ) → Option Status
shadow_refusal s p shadow =
    option_map_or (λ object. option_and_then (λ o. first_refusal (shadow_refusals s o)) object) (root_of s p shadow) (Some InvalidHandle)
