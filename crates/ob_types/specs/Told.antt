-- How what code hands over is seen by the procedures of a set: a refusal.
use Rattle.std.specs.Prelude.{◌≡◌, ℕ, Option, Some}
use Rattle.ob_types.specs.declared.refusal.Refusal.{Refusal}
use Rattle.ob_types.specs.declared.refusal.Refusal.TheVariants.{Code, Memory}

-- a number is exactly that of the procedures; a lack of memory says nothing
abbrev pub IsTold : Refusal → Option ℕ → Type 0
IsTold (Code k) told = told ≡ Some k
IsTold Memory _ = Unit {0}
