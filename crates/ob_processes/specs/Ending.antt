-- The remains of a process that is live no longer.
--
-- Source: this profile.
use Rattle.std.specs.Prelude.{List}
use Rattle.ob_handles.specs.Counts.{Numbers}
use Rattle.ob_model.specs.declared.state.Held.{Held}

-- Its handles that are still to be closed, in the order in which they were opened, and how many of them lead
-- to each object, where each object to which one led stays listed.
pub record Leaving : Type 0 where
  pub handles : List Held
  pub touched : Numbers
