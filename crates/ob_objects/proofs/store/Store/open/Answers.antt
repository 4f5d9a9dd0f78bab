-- The change is written under the id, or nothing is there.
use Rattle.std.proofs.Common.{◌≡◌, ◌∙◌, ap, sym, subst, refl, Some, None, Option, ℕ, IfOk, IfErr}
use Rattle.std.specs.Option.{option_copied_mut}
use Rattle.ob_objects.specs.Changes.{stored_opened}
use Rattle.ob_objects.specs.Slots.{objects_in, place_in}
use Rattle.ob_objects.proofs.KeptTypes.{opened_type}
use Rattle.ob_objects.proofs.KeptSlots.{slots_changed, slots_left, changed_slots_keep, same_slots_keep, object_found, slots_same}
use Rattle.ob_objects.proofs.Written.{on_some, on_error, refusal_found, set_opened}
use Rattle.ob_objects.proofs.Shown.{opened_entries}
use Rattle.ob_objects.proofs.store.Store.open.Goals as goal

pub invariant_of-self : goal.invariant_of-self
invariant_of-self g c = (
  same_slots_keep g.T.TypeSet.procedures c.self.inside.slots _ c.self.inside.types.entries c.self.invariant.0 c.object_mut.follows.holds-at-none,
  c.self.invariant.1,
)

pub returns-in_default-clause-accepted : goal.returns-in_default-clause-accepted
returns-in_default-clause-accepted g c =
    sym (refusal_found g.T.TypeSet.procedures (objects_in c.self.inside.slots) c.args.self.now c.args.id c.args.id None
    (object_found c.self.inside.slots c.args.id None (sym c.object_mut.ensures.value ∙ ap option_copied_mut c.in_default.is)) c.self.view_is refl c.args.set.now c.args.reason)

pub returns-in_default-clause-opened : goal.returns-in_default-clause-opened
returns-in_default-clause-opened g c =
    slots_left c.self.inside.slots _ c.args.self.now c.args.id _ (sym c.object_mut.ensures.value ∙ ap option_copied_mut c.in_default.is) c.object_mut.follows.holds-at-none c.self.view_is

pub returns-in_default-clause-set : goal.returns-in_default-clause-set
returns-in_default-clause-set g c =
    set_opened g.T.TypeSet.procedures (objects_in c.self.inside.slots) c.args.self.now c.args.id c.args.id None
    (object_found c.self.inside.slots c.args.id None (sym c.object_mut.ensures.value ∙ ap option_copied_mut c.in_default.is)) c.self.view_is refl c.args.set.now c.args.reason

pub invariant_of-self-2 : goal.invariant_of-self-2
invariant_of-self-2 g c = (
  changed_slots_keep g.T.TypeSet.procedures c.self.inside.slots _ c.self.inside.types.entries c.args.id
      (λ x. record x { body = stored_opened g.T.TypeSet.procedures c.args.set.now c.args.reason x.body }) c.in-Some.stored.now c.open.new.stored
      c.self.invariant.0 (sym c.object_mut.ensures.value ∙ ap option_copied_mut c.in-Some.is) (on_some c.object_mut.result c.in-Some.stored c.in-Some.is (c.object_mut.follows.holds _)) c.open.ensures.opened
      (λ x. opened_entries g.T.TypeSet.procedures c.args.set.now c.args.reason x.body) (λ x. opened_type g.T.TypeSet.procedures c.args.set.now c.args.reason x.body),
  c.self.invariant.1,
)

pub returns-clause-accepted : goal.returns-clause-accepted
returns-clause-accepted g c =
    subst (λ (o : Option ℕ). IfOk c.open.result (λ _. o ≡ None))
    (refusal_found g.T.TypeSet.procedures (objects_in c.self.inside.slots) c.args.self.now c.args.id c.args.id (Some c.in-Some.stored.now)
    (object_found c.self.inside.slots c.args.id _ (sym c.object_mut.ensures.value ∙ ap option_copied_mut c.in-Some.is)) c.self.view_is refl c.args.set.now c.args.reason) c.open.ensures.accepted

pub returns-clause-refused : goal.returns-clause-refused
returns-clause-refused g c =
    subst (λ (o : Option ℕ). IfErr c.open.result (λ code. o ≡ Some code))
    (refusal_found g.T.TypeSet.procedures (objects_in c.self.inside.slots) c.args.self.now c.args.id c.args.id (Some c.in-Some.stored.now)
    (object_found c.self.inside.slots c.args.id _ (sym c.object_mut.ensures.value ∙ ap option_copied_mut c.in-Some.is)) c.self.view_is refl c.args.set.now c.args.reason) c.open.ensures.refused

pub returns-clause-opened : goal.returns-clause-opened
returns-clause-opened g c =
    slots_changed c.self.inside.slots _ c.args.self.now c.args.id
    (λ x. record x { body = stored_opened g.T.TypeSet.procedures c.args.set.now c.args.reason x.body }) (place_in c.self.inside.slots) c.in-Some.stored.now c.open.new.stored
    c.self.invariant.0.places (sym c.object_mut.ensures.value ∙ ap option_copied_mut c.in-Some.is) (on_some c.object_mut.result c.in-Some.stored c.in-Some.is (c.object_mut.follows.holds _)) c.open.ensures.opened c.self.view_is

pub returns-clause-set : goal.returns-clause-set
returns-clause-set g c =
    c.open.ensures.set
    ∙ set_opened g.T.TypeSet.procedures (objects_in c.self.inside.slots) c.args.self.now c.args.id c.args.id (Some c.in-Some.stored.now)
    (object_found c.self.inside.slots c.args.id _ (sym c.object_mut.ensures.value ∙ ap option_copied_mut c.in-Some.is)) c.self.view_is refl c.args.set.now c.args.reason

pub returns-clause-unchanged : goal.returns-clause-unchanged
returns-clause-unchanged g c =
    on_error (c.open.new.stored ≡ c.in-Some.stored.now) _ c.open.result
    (λ unchanged. slots_same c.self.inside.slots _ c.args.self.now c.args.id c.in-Some.stored.now c.open.new.stored
    (sym c.object_mut.ensures.value ∙ ap option_copied_mut c.in-Some.is) (on_some c.object_mut.result c.in-Some.stored c.in-Some.is (c.object_mut.follows.holds _)) unchanged c.self.view_is) c.open.ensures.unchanged
