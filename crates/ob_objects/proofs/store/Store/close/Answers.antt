-- The change is written under the id, or nothing is there.
use Rattle.std.proofs.Common.{◌∙◌, ap, sym, refl, Some, None}
use Rattle.std.specs.Option.{option_copied_mut}
use Rattle.ob_objects.specs.Changes.{stored_closed}
use Rattle.ob_objects.specs.Slots.{objects_in, place_in}
use Rattle.ob_objects.proofs.KeptTypes.{closed_type}
use Rattle.ob_objects.proofs.KeptSlots.{slots_changed, slots_left, changed_slots_keep, same_slots_keep, object_found}
use Rattle.ob_objects.proofs.Written.{on_some, set_closed}
use Rattle.ob_objects.proofs.Shown.{closed_entries}
use Rattle.ob_objects.proofs.store.Store.close.Goals as goal

pub invariant_of-self : goal.invariant_of-self
invariant_of-self g c = (
  same_slots_keep g.T.TypeSet.procedures c.self.inside.slots _ c.self.inside.types.entries c.self.invariant.0 c.object_mut.follows.holds-at-none,
  c.self.invariant.1,
)

pub returns-in_default-clause-closed : goal.returns-in_default-clause-closed
returns-in_default-clause-closed g c =
    slots_left c.self.inside.slots _ c.args.self.now c.args.id _ (sym c.object_mut.ensures.value ∙ ap option_copied_mut c.in_default.is) c.object_mut.follows.holds-at-none c.self.view_is

pub returns-in_default-clause-set : goal.returns-in_default-clause-set
returns-in_default-clause-set g c =
    set_closed g.T.TypeSet.procedures (objects_in c.self.inside.slots) c.args.self.now c.args.id c.args.id None
    (object_found c.self.inside.slots c.args.id None (sym c.object_mut.ensures.value ∙ ap option_copied_mut c.in_default.is)) c.self.view_is refl c.args.set.now c.args.process_left c.args.system_left

pub invariant_of-self-2 : goal.invariant_of-self-2
invariant_of-self-2 g c = (
  changed_slots_keep g.T.TypeSet.procedures c.self.inside.slots _ c.self.inside.types.entries c.args.id
      (λ x. record x { body = stored_closed g.T.TypeSet.procedures c.args.set.now c.args.process_left c.args.system_left x.body }) c.in-Some.stored.now c.close.new.stored
      c.self.invariant.0 (sym c.object_mut.ensures.value ∙ ap option_copied_mut c.in-Some.is) (on_some c.object_mut.result c.in-Some.stored c.in-Some.is (c.object_mut.follows.holds _)) c.close.ensures.closed
      (λ x. closed_entries g.T.TypeSet.procedures c.args.set.now c.args.process_left c.args.system_left x.body) (λ x. closed_type g.T.TypeSet.procedures c.args.set.now c.args.process_left c.args.system_left x.body),
  c.self.invariant.1,
)

pub returns-clause-closed : goal.returns-clause-closed
returns-clause-closed g c =
    slots_changed c.self.inside.slots _ c.args.self.now c.args.id
    (λ x. record x { body = stored_closed g.T.TypeSet.procedures c.args.set.now c.args.process_left c.args.system_left x.body }) (place_in c.self.inside.slots) c.in-Some.stored.now c.close.new.stored
    c.self.invariant.0.places (sym c.object_mut.ensures.value ∙ ap option_copied_mut c.in-Some.is) (on_some c.object_mut.result c.in-Some.stored c.in-Some.is (c.object_mut.follows.holds _)) c.close.ensures.closed c.self.view_is

pub returns-clause-set : goal.returns-clause-set
returns-clause-set g c =
    c.close.ensures.set
    ∙ set_closed g.T.TypeSet.procedures (objects_in c.self.inside.slots) c.args.self.now c.args.id c.args.id (Some c.in-Some.stored.now)
    (object_found c.self.inside.slots c.args.id _ (sym c.object_mut.ensures.value ∙ ap option_copied_mut c.in-Some.is)) c.self.view_is refl c.args.set.now c.args.process_left c.args.system_left
