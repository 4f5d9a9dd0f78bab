-- The objects below an id were looked at.
use Rattle.std.proofs.Common.{◌≡◌, ◌-◌, filter, map, nat_lt}
use Rattle.ob_survey.specs.Surveying.{seen_of}
use Rattle.ob_survey.proofs.reading.see_objects.Given as goal

abbrev pub invariant-loop-id : goal.invariant-loop-id
invariant-loop-id g l = l.seen.items ≡ map (λ o. seen_of g.T.TypeSet.procedures l.core o.id) (filter (λ o. nat_lt o.id l.next) l.core.objects)

abbrev pub decreases-loop-id : goal.decreases-loop-id
decreases-loop-id g l = 18446744073709551616 - l.next
