-- Each case by computing.
use Rattle.std.proofs.Common.{codes, refl}
use Rattle.ob_model.proofs.Computed.{ends_as_computed}
use Rattle.ob_model.proofs.Lookup.{looked_up}
use Rattle.ob_model.proofs.Walk.{walk}
use Rattle.ob_model.specs.Examples.{numbers, with_local, opens, creates}
use Rattle.ob_model.specs.Looks.{most_reparses}
use Rattle.ob_model.proofs.examples.views_come_first.Goals as goal

pub returns-clause-local_comes_first : goal.returns-clause-local_comes_first
unfolding walk looked_up
returns-clause-local_comes_first c =
    let opens_ends = ends_as_computed numbers with_local refl 1 opens most_reparses in
    let other_process_opens = ends_as_computed numbers with_local refl 2 opens most_reparses in (
      opens_ends (codes "\\??\\C:") _ refl,
      opens_ends (codes "\\??\\D:") _ refl,
      opens_ends (codes "\\GLOBAL??\\C:") _ refl,
      other_process_opens (codes "\\??\\C:") _ refl,
      opens_ends (codes "\\DosDevices\\C:") _ refl,
    )

pub returns-clause-create_is_local : goal.returns-clause-create_is_local
unfolding walk looked_up
returns-clause-create_is_local c =
    let creates_ends = ends_as_computed numbers with_local refl 1 creates most_reparses in (
      creates_ends (codes "\\??\\D:") _ refl,
      creates_ends (codes "\\??\\C:") _ refl,
      refl,
      refl,
    )

pub returns-clause-view_is_local : goal.returns-clause-view_is_local
unfolding walk looked_up
returns-clause-view_is_local c =
    let opens_ends = ends_as_computed numbers with_local refl 1 opens most_reparses in
    let other_process_opens = ends_as_computed numbers with_local refl 2 opens most_reparses in
    let creates_ends = ends_as_computed numbers with_local refl 1 creates most_reparses in (
      opens_ends (codes "\\??") _ refl,
      other_process_opens (codes "\\??") _ refl,
      opens_ends (codes "\\DosDevices") _ refl,
      creates_ends (codes "\\??") _ refl,
    )
