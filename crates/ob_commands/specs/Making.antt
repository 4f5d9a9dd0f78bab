-- The object that a create is to make, in the words of the machine.
use Rattle.std.specs.Prelude.{ℕ, Option}
use Rattle.ob_model.specs.Creates as machine
use Rattle.ob_commands.specs.declared.making.Making.{Making}
use Rattle.ob_commands.specs.declared.making.Making.TheVariants.{Directory, Link, Object}

-- what a create makes, by the shadow that a directory gets
abbrev pub making_of : {K : Type 0} → Making K → Option ℕ → machine.Making K
making_of Directory = machine.MakesDirectory
making_of (Link target) = λ shadow. machine.MakesLink target.now
making_of (Object kind args) = λ shadow. machine.MakesObject kind args.now
