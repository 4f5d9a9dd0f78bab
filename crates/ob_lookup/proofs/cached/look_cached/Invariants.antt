-- The outcome of the turns so far ends the lookup of the name, in each state that shows the store.
use Rattle.std.proofs.Common.{ℕ, ◌<◌}
use Rattle.ob_model.specs.State.{State}
use Rattle.ob_model.specs.Looks as machine
use Rattle.ob_devmap.specs.View.{IsViewOf}
use Rattle.ob_objects.specs.Store.{Shows}
use Rattle.ob_lookup.specs.Prefixes.{ArePaths}
use Rattle.ob_lookup.specs.Look.{turn_of, MayWantMemory, IfAgain, Goes}
use Rattle.ob_lookup.proofs.cached.look_cached.Given as goal

abbrev pub invariant-loop-next : goal.invariant-loop-next
invariant-loop-next g l = record {
  left : IfAgain l.next (0 < l.left);
  goes : (s : State g.row.T-Kind.Denot g.row.T.Denot g.row.T-Face.Denot g.row.T-Inner.Denot) (p : ℕ) (end : machine.Look) → Shows s l.store → IsViewOf s p l.view
      → Goes g.T.TypeSet.procedures s p l.mode l.left (turn_of l.next) end
      → machine.LooksUp g.T.TypeSet.procedures s p l.mode l.budget l.fn.root l.fn.name end;
  wants : IfAgain l.next ((s : State g.row.T-Kind.Denot g.row.T.Denot g.row.T-Face.Denot g.row.T-Inner.Denot) (p : ℕ) → Shows s l.store → IsViewOf s p l.view
      → (end : machine.Look) × MayWantMemory end × machine.LooksUp g.T.TypeSet.procedures s p l.mode 0 l.fn.root l.fn.name end);
  paths : ArePaths g.row.T-Kind.Denot g.row.T.Denot g.row.T-Face.Denot g.row.T-Inner.Denot l.store l.cache;
}

abbrev pub decreases-loop-next : goal.decreases-loop-next
decreases-loop-next g l = l.left
