-- The orders of the handles that stay are below the next one.
use Rattle.ob_handles_tests.proofs.Newest.{left_below}
use Rattle.ob_handles_tests.proofs.handles.Played.take.Goals as goal

pub invariant_of-self : goal.invariant_of-self
invariant_of-self g c = record {
  newest = left_below _ _ c.args.self.now.next _ c.take.ensures.others c.args.self.now.newest;
}
