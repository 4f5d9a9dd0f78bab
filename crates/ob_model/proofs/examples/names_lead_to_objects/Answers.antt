-- Each case by computing.
use Rattle.std.proofs.Common.{codes, refl}
use Rattle.ob_model.proofs.Computed.{ends_as_computed, relative_ends_as_computed}
use Rattle.ob_model.proofs.Lookup.{looked_up}
use Rattle.ob_model.proofs.Walk.{walk}
use Rattle.ob_model.specs.Examples.{numbers, with_disk, opens, creates, with_two_spellings, opens_folded}
use Rattle.ob_model.specs.Looks.{most_reparses}
use Rattle.ob_model.proofs.examples.names_lead_to_objects.Goals as goal

pub returns-clause-names_that_are_found : goal.returns-clause-names_that_are_found
unfolding walk looked_up
returns-clause-names_that_are_found c =
    let opens_ends = ends_as_computed numbers with_disk refl 1 opens most_reparses in (
      opens_ends (codes "\\") _ refl,
      opens_ends (codes "\\Device") _ refl,
      opens_ends (codes "\\Device\\Disk") _ refl,
      relative_ends_as_computed numbers with_disk refl 1 opens most_reparses 4 (codes "Disk") _ refl refl,
    )

pub returns-clause-names_that_are_missing : goal.returns-clause-names_that_are_missing
unfolding walk looked_up
returns-clause-names_that_are_missing c =
    let opens_ends = ends_as_computed numbers with_disk refl 1 opens most_reparses in
    let creates_ends = ends_as_computed numbers with_disk refl 1 creates most_reparses in (
      opens_ends (codes "\\Missing\\Disk") _ refl,
      opens_ends (codes "\\Device\\Missing") _ refl,
      creates_ends (codes "\\Device\\Missing") _ refl,
      opens_ends (codes "\\Device\\Disk\\Part") _ refl,
    )

pub returns-clause-names_that_are_invalid : goal.returns-clause-names_that_are_invalid
unfolding walk looked_up
returns-clause-names_that_are_invalid c =
    let opens_ends = ends_as_computed numbers with_disk refl 1 opens most_reparses in (
      opens_ends (codes "\\Device\\") _ refl,
      opens_ends (codes "\\Device\\\\Disk") _ refl,
      opens_ends (codes "Device") _ refl,
    )

pub returns-clause-first_inserted_is_found : goal.returns-clause-first_inserted_is_found
unfolding walk looked_up
returns-clause-first_inserted_is_found c =
    let opens_folded_ends = ends_as_computed numbers with_two_spellings refl 1 opens_folded most_reparses in
    let opens_ends = ends_as_computed numbers with_two_spellings refl 1 opens most_reparses in (
      opens_folded_ends (codes "\\foo") _ refl,
      opens_folded_ends (codes "\\Foo") _ refl,
      opens_ends (codes "\\Foo") _ refl,
      opens_ends (codes "\\foo") _ refl,
    )
