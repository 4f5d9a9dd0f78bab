-- Where there is nothing, what holds of every store does.
use Rattle.ob_objects.proofs.KeptShadows.{none_counted}
use Rattle.ob_objects.proofs.KeptSlots.{none_keep}
use Rattle.ob_objects.proofs.store.Store.new.Goals as goal

pub invariant_of-result : goal.invariant_of-result
invariant_of-result g c = (
  none_keep g.T.TypeSet.procedures _ _ c.new.ensures.objects c.new.ensures.places c.new.ensures.filled c.new-2.ensures.empty,
  none_counted _ _ c.new-2.ensures.empty c.new-3.ensures,
)
