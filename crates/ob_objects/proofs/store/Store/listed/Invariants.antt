-- The entries passed are told, those that are left come behind them, and the walk stays one through the store's types.
use Rattle.std.proofs.Common.{◌≡◌, ◌++◌, map}
use Rattle.ob_objects.specs.Listing.{entry_listed}
use Rattle.ob_objects.specs.Types.{KeepsTypes}
use Rattle.ob_objects.proofs.store.Store.listed.Given as goal

abbrev pub invariant-loop-entry : goal.invariant-loop-entry
invariant-loop-entry g l =
    KeepsTypes g.T.TypeSet.procedures l.fn.self l.walk
    × (l.items.items ++ map (entry_listed g.T.TypeSet.procedures l.fn.self) l.entry-iterator ≡ map (entry_listed g.T.TypeSet.procedures l.fn.self) l.fn.shown)
