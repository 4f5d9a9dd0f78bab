-- What is sought is found among the types from the id on, or among all.
use Rattle.ob_objects.proofs.KeptTypes.{range_is_ahead}
use Rattle.ob_objects.proofs.walk.Walk.get.Goals as goal

pub invariant_of-self : goal.invariant_of-self
invariant_of-self g c = range_is_ahead c.self.inside.types.now.entries c.range-self-inside.result (λ k d within. ((c.range-self-inside.ensures.in_range tt).0 k d within).1)
