-- The deletions of a chain.
use Rattle.std.specs.Prelude.{List, [], ◌∷◌}
use Rattle.ob_host.specs.declared.deletion.HostDeletion.{HostDeletion}
use Rattle.ob_host.specs.declared.chain.Chain.{Chain, End, More'}

-- the deletions, the one that was put in last first
abbrev pub items : Chain → List HostDeletion
items End = []
items (More' deletion place rest) = deletion ∷ items rest
