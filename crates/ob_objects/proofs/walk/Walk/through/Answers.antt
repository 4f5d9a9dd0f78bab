-- All types are ahead.
use Rattle.ob_objects.proofs.KeptTypes.{range_is_ahead}
use Rattle.ob_objects.proofs.walk.Walk.through.Goals as goal

pub invariant_of-result : goal.invariant_of-result
invariant_of-result g c = range_is_ahead c.args.types.now.entries c.range.result (λ k d within. ((c.range.ensures.in_range tt).0 k d within).1)
