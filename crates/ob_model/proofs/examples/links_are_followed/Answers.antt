-- Each case by computing.
use Rattle.std.proofs.Common.{codes, refl}
use Rattle.ob_model.proofs.Computed.{ends_as_computed}
use Rattle.ob_model.proofs.Lookup.{looked_up}
use Rattle.ob_model.proofs.Walk.{walk}
use Rattle.ob_model.specs.Examples.{numbers, with_volume, opens, creates, with_links, opens_link, with_separator_at_end, with_chain, chain_name}
use Rattle.ob_model.specs.Looks.{most_reparses}
use Rattle.ob_model.proofs.examples.links_are_followed.Goals as goal

pub returns-clause-rest_is_parsed : goal.returns-clause-rest_is_parsed
unfolding walk looked_up
returns-clause-rest_is_parsed c =
    let opens_ends = ends_as_computed numbers with_volume refl 1 opens most_reparses in
    let creates_ends = ends_as_computed numbers with_volume refl 1 creates most_reparses in (
      opens_ends (codes "\\Volume\\a\\\\b") _ refl,
      opens_ends (codes "\\Volume") _ refl,
      creates_ends (codes "\\Volume") _ refl,
      creates_ends (codes "\\Volume\\a") _ refl,
    )

pub returns-clause-link_is_followed : goal.returns-clause-link_is_followed
unfolding walk looked_up
returns-clause-link_is_followed c =
    let opens_ends = ends_as_computed numbers with_links refl 1 opens most_reparses in
    let creates_ends = ends_as_computed numbers with_links refl 1 creates most_reparses in (
      opens_ends (codes "\\Link\\Disk") _ refl,
      opens_ends (codes "\\Link") _ refl,
      creates_ends (codes "\\Link\\New") _ refl,
      opens_ends (codes "\\DosDevices") _ refl,
    )

pub returns-clause-link_is_opened : goal.returns-clause-link_is_opened
unfolding walk looked_up
returns-clause-link_is_opened c =
    let opens_link_ends = ends_as_computed numbers with_links refl 1 opens_link most_reparses in
    let creates_ends = ends_as_computed numbers with_links refl 1 creates most_reparses in (
      opens_link_ends (codes "\\Link") _ refl,
      creates_ends (codes "\\Link") _ refl,
      opens_link_ends (codes "\\Link\\Disk") _ refl,
    )

pub returns-clause-link_to_itself : goal.returns-clause-link_to_itself
unfolding walk looked_up
returns-clause-link_to_itself c =
    let opens_ends = ends_as_computed numbers with_links refl 1 opens most_reparses in
    let opens_link_ends = ends_as_computed numbers with_links refl 1 opens_link most_reparses in (
      opens_ends (codes "\\Self") _ refl,
      opens_link_ends (codes "\\Self") _ refl,
    )

pub returns-clause-target_is_no_absolute_name : goal.returns-clause-target_is_no_absolute_name
unfolding walk looked_up
returns-clause-target_is_no_absolute_name c =
    let opens_ends = ends_as_computed numbers with_links refl 1 opens most_reparses in
    let opens_link_ends = ends_as_computed numbers with_links refl 1 opens_link most_reparses in (
      opens_ends (codes "\\Bad") _ refl,
      opens_link_ends (codes "\\Bad") _ refl,
    )

pub returns-clause-target_ends_in_separator : goal.returns-clause-target_ends_in_separator
unfolding walk looked_up
returns-clause-target_ends_in_separator c =
    let opens_ends = ends_as_computed numbers with_separator_at_end refl 1 opens most_reparses in (
      opens_ends (codes "\\K\\B") _ refl,
      opens_ends (codes "\\K") _ refl,
    )

pub returns-clause-chain_of_links : goal.returns-clause-chain_of_links
unfolding walk looked_up
returns-clause-chain_of_links c =
    let opens_ends = ends_as_computed numbers (with_chain 33) refl 1 opens most_reparses in (
      opens_ends (chain_name 31) _ refl,
      opens_ends (chain_name 32) _ refl,
    )
