-- The change is written under the id, or nothing is there.
use Rattle.std.proofs.Common.{◌∙◌, ap, refl, sym}
use Rattle.std.specs.Option.{option_copied_mut}
use Rattle.ob_objects.specs.Slots.{place_in}
use Rattle.ob_objects.proofs.KeptSlots.{slots_changed, slots_left, changed_slots_keep, same_slots_keep}
use Rattle.ob_objects.proofs.Written.{on_some}
use Rattle.ob_objects.proofs.store.Store.set_permanent.Goals as goal

pub invariant_of-self : goal.invariant_of-self
invariant_of-self g c = (
  same_slots_keep g.T.TypeSet.procedures c.self.inside.slots _ c.self.inside.types.entries c.self.invariant.0 c.object_mut.follows.holds-at-none,
  c.self.invariant.1,
)

pub returns-in_default : goal.returns-in_default
returns-in_default g c =
    slots_left c.self.inside.slots _ c.args.self.now c.args.id _ (sym c.object_mut.ensures.value ∙ ap option_copied_mut c.in_default.is) c.object_mut.follows.holds-at-none c.self.view_is

pub invariant_of-self-2 : goal.invariant_of-self-2
invariant_of-self-2 g c = (
  changed_slots_keep g.T.TypeSet.procedures c.self.inside.slots _ c.self.inside.types.entries c.args.id (λ x. record x { permanent = c.args.permanent }) c.in-Some.stored.now _
      c.self.invariant.0 (sym c.object_mut.ensures.value ∙ ap option_copied_mut c.in-Some.is) (on_some c.object_mut.result c.in-Some.stored c.in-Some.is (c.object_mut.follows.holds _)) refl (λ x. refl) (λ x. refl),
  c.self.invariant.1,
)

pub returns : goal.returns
returns g c =
    slots_changed c.self.inside.slots _ c.args.self.now c.args.id (λ x. record x { permanent = c.args.permanent }) (place_in c.self.inside.slots) c.in-Some.stored.now _
    c.self.invariant.0.places (sym c.object_mut.ensures.value ∙ ap option_copied_mut c.in-Some.is) (on_some c.object_mut.result c.in-Some.stored c.in-Some.is (c.object_mut.follows.holds _)) refl c.self.view_is
