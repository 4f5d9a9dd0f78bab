use Rattle.std.proofs.Common.{◌==◌, refl, sym, eq-eqb, arith}
use Rattle.std.proofs.lemmas.Bool.{ne_eqb}
use Rattle.ob_model.proofs.InOrder.{newest_is_last, free_from_other, in_order-rising, in_order-finds, in_order-others, in_order-length}
use Rattle.ob_model.proofs.laws.objects_stand_in_order.Goals as goal

pub returns-clause-last : goal.returns-clause-last
returns-clause-last g c x objects below = newest_is_last (λ o. o.id) x objects below

pub returns-clause-rising : goal.returns-clause-rising
returns-clause-rising g c x objects free rising = in_order-rising (λ o. o.id) x objects (free_from_other (λ o. o.id) x objects free) rising

pub returns-clause-found : goal.returns-clause-found
returns-clause-found g c x objects free = in_order-finds (λ o. o.id) (λ o. o.id == x.id) x objects (eq-eqb x.id x.id refl) (free_from_other (λ o. o.id) x objects free)

pub returns-clause-others : goal.returns-clause-others
returns-clause-others g c x objects id other = in_order-others (λ o. o.id) (λ o. o.id == id) x objects (ne_eqb x.id id (λ same. other (sym same)))

pub returns-clause-count : goal.returns-clause-count
returns-clause-count g c x objects = let more = in_order-length (λ o. o.id) x objects in omega (arith, more)
