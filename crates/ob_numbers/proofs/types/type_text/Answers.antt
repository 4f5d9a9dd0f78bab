use Rattle.std.proofs.Common.{refl, inl, inr}
use Rattle.std.specs.Prelude.{codes}
use Rattle.ob_numbers.proofs.types.type_text.Goals as goal

pub returns-in-1-clause-found : goal.returns-in-1-clause-found
returns-in-1-clause-found c = (codes "Directory", inl (refl, c.in-1.is), refl)

pub returns-in-2-clause-found : goal.returns-in-2-clause-found
returns-in-2-clause-found c = (codes "SymbolicLink", inr (inl (refl, c.in-2.is)), refl)
