-- The object comes into a slot of its own, or into that of its name's place.
use Rattle.std.proofs.Common.{◌∙◌, ap, sym, refl, nat_cmp, Some, ◌≡◌}
use Rattle.std.specs.BTreeMap.{insert_entry}
use Rattle.std.specs.Option.{option_copied_mut, option_and_then}
use Rattle.ob_objects.specs.declared.slots.Slot.{Slot}
use Rattle.ob_objects.specs.ById.{by_id, parts}
use Rattle.ob_objects.specs.Slots.{objects_in}
use Rattle.ob_objects.proofs.ById.{seen_stays, seen_inserted}
use Rattle.ob_objects.proofs.SlotChanges.{written}
use Rattle.ob_objects.proofs.slots.Slots.put_object.Goals as goal
use Rattle.ob_objects.proofs.slots.Slots.put_object.Goals.{in-Some, in_default}

pub returns-in-Ok-None-clause-put : goal.returns-in-Ok-None-clause-put
returns-in-Ok-None-clause-put g c =
    seen_inserted (λ (slot : Slot _ _). slot.object) c.args.self.now.map.entries c.insert.new.self.entries c.id.inside.0 (Some _)
    (λ q. c.in-Ok-None.ensures.updates.0 q) c.args.object refl
    ∙ ap (λ k. insert_entry nat_cmp (objects_in c.args.self.now) k c.args.object) c.id.view_is

pub returns-after-slot_mut-clause-put : goal.returns-after-slot_mut-clause-put
returns-after-slot_mut-clause-put g c =
    elim c.match-slot_mut.branch [
      | in-Some w ↦
          let raw = sym c.slot_mut.ensures.value ∙ ap option_copied_mut w.in-Some.is in
          ap objects_in w.self-is
          ∙ seen_stays (λ (slot : Slot _ _). slot.object) c.insert.new.self.entries _ c.args.id (Some _)
          (written c.insert.new.self.entries _ c.args.id w.in-Some.slot.now _ raw (c.slot_mut.follows.holds _)) (ap (option_and_then (λ (slot : Slot _ _). slot.object)) (sym raw))
          ∙ put
      | in_default w ↦ ap objects_in w.self-is ∙ ap (λ m. parts (λ (slot : Slot _ _). slot.object) (by_id m.entries)) c.slot_mut.follows.holds-at-none ∙ put
    ]
  where
    put : parts (λ (slot : Slot _ _). slot.object) (by_id c.insert.new.self.entries) ≡ insert_entry nat_cmp (objects_in c.args.self.now) c.args.id c.args.object
    put =
        seen_inserted (λ (slot : Slot _ _). slot.object) c.args.self.now.map.entries c.insert.new.self.entries c.id.inside.0 (Some _)
        (λ q. c.in-Ok-Some.ensures.updates.0 q) c.args.object refl
        ∙ ap (λ k. insert_entry nat_cmp (objects_in c.args.self.now) k c.args.object) c.id.view_is
