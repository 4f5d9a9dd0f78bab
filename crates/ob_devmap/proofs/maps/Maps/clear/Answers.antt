-- The map that goes is no longer counted.
use Rattle.std.proofs.Common.{◌∙◌, sym}
use Rattle.ob_devmap.proofs.Counted.{map_fewer}
use Rattle.ob_devmap.proofs.maps.Maps.clear.Goals as goal

pub invariant_of-self : goal.invariant_of-self
invariant_of-self c =
    map_fewer c.self.inside.directories.entries c.self.inside.counts c.self.invariant c.process.inside.0 c.remove.new.self.entries c.remove.ensures.ordered c.lower.new.self
    c.in-Some.before (sym c.remove.ensures.value ∙ c.in-Some.is) c.remove.ensures.entries c.lower.ensures.counted
