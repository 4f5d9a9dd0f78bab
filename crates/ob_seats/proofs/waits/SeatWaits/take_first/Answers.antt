-- The parse of the least ticket comes first in the map.
use Rattle.std.proofs.Common.{◌∙◌, sym}
use Rattle.ob_seats.proofs.Keys.{rest_kept, first_own}
use Rattle.ob_seats.proofs.waits.SeatWaits.take_first.Goals as goal

pub invariant_of-self-2 : goal.invariant_of-self-2
invariant_of-self-2 g c = rest_kept g.C.Callers.ticket_of c.self.inside.parses.entries c.self.invariant _ _ _ c.in_ok-parsing.ensures.removal

pub returns-clause-first : goal.returns-clause-first
returns-clause-first g c = sym c.self.view_is ∙ first_own g.C.Callers.ticket_of c.self.inside.parses.entries c.self.invariant _ _ _ c.in_ok-parsing.ensures.removal
