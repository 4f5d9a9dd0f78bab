-- The components so far lead from the start to the place, and what is left stands behind them.
use Rattle.std.proofs.Common.{◌≡◌, Some, length}
use Rattle.ob_objects.specs.Store.{directory_at}
use Rattle.ob_lookup.specs.Onward.{Leads}
use Rattle.ob_lookup.specs.Walk.{rest_of, directory_of, shadow_at}
use Rattle.ob_lookup.proofs.walk.walk.Given as goal

abbrev pub invariant-loop-left : goal.invariant-loop-left
invariant-loop-left g l = record {
  leads : Leads g.row.T-Kind.Denot g.row.T.Denot g.row.T-Face.Denot g.row.T-Inner.Denot l.store l.view l.fn.start l.create l.fold l.place (rest_of l.left);
  inside : directory_at l.store (directory_of l.view l.place) ≡ Some l.dir;
  beneath : shadow_at l.store (directory_of l.view l.place) ≡ l.shadow;
}

abbrev pub decreases-loop-left : goal.decreases-loop-left
decreases-loop-left g l = length (rest_of l.left)
