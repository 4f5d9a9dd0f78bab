-- The parse of the least ticket stands first in the map.
use Rattle.ob_runner.proofs.Kept.{rest_kept, least_first}
use Rattle.ob_runner.proofs.waits.Waits.take_first.Goals as goal

pub invariant_of-self-2 : goal.invariant_of-self-2
invariant_of-self-2 g c = rest_kept c.self.inside.parses.entries c.self.invariant _ _ _ c.in_ok-parsing.ensures.removal

pub returns-clause-least : goal.returns-clause-least
returns-clause-least g c = least_first c.self.inside.parses.entries c.self.invariant _ _ _ c.in_ok-parsing.ensures.removal
