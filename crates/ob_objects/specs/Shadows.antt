-- How many directories have each object as their shadow.
--
-- Source: this profile.
use Rattle.std.specs.Prelude.{◌≡◌, ℕ, ◌+◌, ◌-◌, ◌==◌, Bool, false, if◌then◌else◌, Option, None, count_by}
use Rattle.std.specs.Map.{values_of}
use Rattle.std.specs.Option.{option_map_or}
use Rattle.ob_handles.specs.Counts.{Numbers, count_of}
use Rattle.ob_objects.specs.declared.types.StoredType.{StoredType}
use Rattle.ob_objects.specs.declared.types.StoredType.TheVariants.{Directory, Link, Other}
use Rattle.ob_objects.specs.Types.{Types}

-- an object is this shadow
abbrev pub is_this : ℕ → Option ℕ → Bool
is_this o shadow = option_map_or (λ s. s == o) shadow false

-- one where it is
abbrev pub one_for : ℕ → Option ℕ → ℕ
one_for o shadow = if is_this o shadow then 1 else 0

-- a directory with this shadow, where it has one, is counted more, or less
abbrev pub CountsMore : Option ℕ → Numbers → Numbers → Type 0
CountsMore shadow old new = (o : ℕ) → count_of new o ≡ count_of old o + one_for o shadow

abbrev pub CountsLess : Option ℕ → Numbers → Numbers → Type 0
CountsLess shadow old new = (o : ℕ) → count_of new o ≡ count_of old o - one_for o shadow

-- the shadow of what is of a type
abbrev pub shadow_of_type : {K : Type 0} → StoredType K → Option ℕ
shadow_of_type (Directory shadow) = shadow
shadow_of_type Link = None
shadow_of_type (Other kind) = None

-- the counts are right: each object is counted as often as a directory has it as its shadow
abbrev pub CountsShadows : {K : Type 0} → Types K → Numbers → Type 0
CountsShadows types shadows = (o : ℕ) → count_of shadows o ≡ count_by (λ t. is_this o (shadow_of_type t)) (values_of types)
