-- Each case by computing.
use Rattle.std.proofs.Common.{codes, refl, arith}
use Rattle.ob_model.proofs.Computed.{ends_as_computed, relative_ends_as_computed}
use Rattle.ob_model.proofs.Lookup.{looked_up}
use Rattle.ob_model.proofs.Walk.{walk}
use Rattle.ob_model.specs.Examples.{numbers, with_shadows, with_shadowed_map, opens, opens_folded, creates}
use Rattle.ob_model.specs.Looks.{most_reparses}
use Rattle.ob_model.proofs.examples.shadows_are_seen.Goals as goal

pub returns-clause-shadow_is_seen : goal.returns-clause-shadow_is_seen
unfolding walk looked_up
returns-clause-shadow_is_seen c =
    let opens_ends = ends_as_computed numbers with_shadows refl 1 opens most_reparses in (
      opens_ends (codes "\\Own\\B") _ refl,
      opens_ends (codes "\\Own\\B\\C") _ refl,
      relative_ends_as_computed numbers with_shadows refl 1 opens most_reparses 8 (codes "B") _ refl refl,
      opens_ends (codes "\\Own\\D") _ refl,
      opens_ends (codes "\\Own\\D\\C") _ refl,
    )

pub returns-clause-own_comes_first : goal.returns-clause-own_comes_first
unfolding walk looked_up
returns-clause-own_comes_first c =
    let opens_ends = ends_as_computed numbers with_shadows refl 1 opens most_reparses in (
      opens_ends (codes "\\Own\\A") _ refl,
      ends_as_computed numbers with_shadows refl 1 opens_folded most_reparses (codes "\\Own\\a") _ refl,
      opens_ends (codes "\\Shared\\A") _ refl,
      refl,
    )

pub returns-clause-create_is_own : goal.returns-clause-create_is_own
unfolding walk looked_up
returns-clause-create_is_own c =
    let creates_ends = ends_as_computed numbers with_shadows refl 1 creates most_reparses in (
      creates_ends (codes "\\Own\\B") _ refl,
      creates_ends (codes "\\Own\\A") _ refl,
      creates_ends (codes "\\Own\\B\\C") _ refl,
      creates_ends (codes "\\Own\\B\\D") _ refl,
      relative_ends_as_computed numbers with_shadows refl 1 creates most_reparses 8 (codes "B") _ refl refl,
    )

pub returns-clause-root_is_shadow : goal.returns-clause-root_is_shadow
unfolding walk looked_up
returns-clause-root_is_shadow c =
    let opens_ends = ends_as_computed numbers with_shadows refl 1 opens most_reparses in (
      opens_ends (codes "\\All\\Device") _ refl,
      opens_ends (codes "\\All\\All\\Own\\B") _ refl,
      ends_as_computed numbers with_shadows refl 1 creates most_reparses (codes "\\All\\Device") _ refl,
    )

pub returns-clause-map_has_shadow : goal.returns-clause-map_has_shadow
unfolding walk looked_up
returns-clause-map_has_shadow c =
    let opens_ends = ends_as_computed numbers with_shadowed_map refl 1 opens most_reparses in
    let creates_ends = ends_as_computed numbers with_shadowed_map refl 1 creates most_reparses in (
      opens_ends (codes "\\??\\C:") _ refl,
      opens_ends (codes "\\??\\D:") _ refl,
      opens_ends (codes "\\??\\E:") _ refl,
      creates_ends (codes "\\??\\C:") _ refl,
      creates_ends (codes "\\??\\E:") _ refl,
    )

pub returns-clause-shadows_are_judged : goal.returns-clause-shadows_are_judged
returns-clause-shadows_are_judged c = (
  (refl, refl),
  (refl, refl),
  (refl, refl),
  (refl, refl),
  (16, ((4, refl, omega arith, omega arith), refl), refl, refl),
)
