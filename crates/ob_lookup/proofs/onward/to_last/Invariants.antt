-- The components so far lead from the start to the place, whose entries these are.
use Rattle.std.proofs.Common.{◌≡◌, Some, length}
use Rattle.ob_objects.specs.Store.{directory_at}
use Rattle.ob_lookup.specs.Onward.{Leads}
use Rattle.ob_lookup.specs.Walk.{directory_of, shadow_at, text_of}
use Rattle.ob_lookup.proofs.onward.to_last.Given as goal

abbrev pub invariant-loop-next : goal.invariant-loop-next
invariant-loop-next g l = record {
  leads : Leads g.row.T-Kind.Denot g.row.T.Denot g.row.T-Face.Denot g.row.T-Inner.Denot l.store l.view l.fn.start l.create l.fold l.at.place (text_of l.at);
  inside : directory_at l.store (directory_of l.view l.at.place) ≡ Some l.dir;
  beneath : shadow_at l.store (directory_of l.view l.at.place) ≡ l.shadow;
}

abbrev pub decreases-loop-next : goal.decreases-loop-next
decreases-loop-next g l = length (text_of l.at)
