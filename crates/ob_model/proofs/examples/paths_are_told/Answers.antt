-- Each case by computing.
use Rattle.std.proofs.Common.{refl, codes}
use Rattle.ob_model.specs.Examples.{row_in}
use Rattle.ob_model.specs.Opening.{root_row}
use Rattle.ob_model.proofs.examples.paths_are_told.Goals as goal

pub returns : goal.returns
returns c = (((λ e. cc), (row_in 4 7 (codes "Tape") 8, refl, refl, ((λ e. cc), (root_row 3 (codes "Device") 4, refl, refl, refl)))), refl, refl, refl)
