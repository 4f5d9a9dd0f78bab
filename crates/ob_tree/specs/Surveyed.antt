-- The survey of a namespace, which a tree shows.
--
-- Source: this profile.
use Rattle.std.specs.Prelude.{List}
use Rattle.ob_tree.specs.declared.survey.Seen.{Seen}
use Rattle.ob_tree.specs.declared.survey.SeenProcess.{SeenProcess}

-- the objects, by rising ids, and the live processes, by rising numbers
pub record Surveyed : Type 0 where
  pub objects : List Seen
  pub processes : List SeenProcess
