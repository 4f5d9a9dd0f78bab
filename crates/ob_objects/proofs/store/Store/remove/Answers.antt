-- The object's type and the places of what lay in it go with it.
use Rattle.std.proofs.Common.{◌∙◌, ap, cond, sym, refl, nat_cmp, None}
use Rattle.std.specs.BTreeMap.{is_at}
use Rattle.std.specs.Map.{lookup}
use Rattle.ob_objects.specs.Slots.{objects_in}
use Rattle.ob_objects.proofs.KeptShadows.{went_counted}
use Rattle.ob_objects.proofs.KeptSlots.{object_stored, went_keep, none_went_keep}
use Rattle.ob_objects.proofs.Written.{removed_without}
use Rattle.ob_objects.proofs.store.Store.remove.Goals as goal

pub invariant_of-self : goal.invariant_of-self
invariant_of-self g c = (
  none_went_keep g.T.TypeSet.procedures c.self.inside.slots c.take_object.new.self c.self.inside.types.entries c.args.id c.self.invariant.0
      (sym c.take_object.ensures.taken ∙ c.in_err-stored.was) c.take_object.ensures.gone c.take_object.ensures.places c.take_object.ensures.filled,
  c.self.invariant.1,
)

pub returns-in_err-stored-clause-there : goal.returns-in_err-stored-clause-there
returns-in_err-stored-clause-there g c =
    c.from_residual.ensures ∙ sym c.in_err-stored.was ∙ c.take_object.ensures.taken ∙ object_stored c.self.inside.slots c.args.self.now c.args.id c.self.view_is

pub returns-in_err-stored-clause-others : goal.returns-in_err-stored-clause-others
returns-in_err-stored-clause-others g c =
    removed_without (objects_in c.take_object.new.self) (objects_in c.self.inside.slots) c.args.self.now c.args.id c.args.id c.self.invariant.0.places.is_store c.take_object.ensures.gone c.self.view_is refl

pub invariant_of-self-2 : goal.invariant_of-self-2
invariant_of-self-2 g c = (
  went_keep g.T.TypeSet.procedures c.self.inside.slots c.take_object.new.self c.forget_names.new.self c.self.inside.types.entries c.remove.new.self.entries c.args.id c.in_ok-stored.stored c.self.invariant.0
      (sym c.take_object.ensures.taken ∙ c.in_ok-stored.was) c.take_object.ensures.gone c.take_object.ensures.places c.take_object.ensures.filled
      c.forget_names.ensures.objects c.forget_names.ensures.forgotten c.forget_names.ensures.filled
      (λ q. c.remove.ensures.updates.0 q ∙ ap (λ k. cond (is_at (nat_cmp k) q) None (lookup (is_at (nat_cmp q)) c.self.inside.types.entries)) c.id.view_is),
  went_counted g.T.TypeSet.procedures c.self.inside.slots c.self.inside.types.entries c.remove.new.self.entries c.args.id c.id.inside.0 c.in_ok-stored.stored
      c.self.inside.shadows c.discount.new.shadows c.self.invariant.0 c.self.invariant.1 c.discount.ensures (sym c.take_object.ensures.taken ∙ c.in_ok-stored.was) c.remove.ensures.entries c.id.view_is,
)

pub returns-clause-there : goal.returns-clause-there
returns-clause-there g c = sym c.in_ok-stored.was ∙ c.take_object.ensures.taken ∙ object_stored c.self.inside.slots c.args.self.now c.args.id c.self.view_is

pub returns-clause-others : goal.returns-clause-others
returns-clause-others g c =
    removed_without (objects_in c.forget_names.new.self) (objects_in c.self.inside.slots) c.args.self.now c.args.id c.args.id c.self.invariant.0.places.is_store
    (c.forget_names.ensures.objects ∙ c.take_object.ensures.gone) c.self.view_is refl
