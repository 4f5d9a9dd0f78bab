-- The object of the slot stays, and a new slot has none.
use Rattle.std.proofs.Common.{◌∙◌, ap, sym, nat_eq, Some}
use Rattle.std.specs.Option.{option_copied_mut, option_and_then}
use Rattle.std.specs.Map.{lookup}
use Rattle.ob_objects.specs.declared.slots.Slot.{Slot}
use Rattle.ob_objects.specs.ById.{by_id, parts}
use Rattle.ob_objects.proofs.ById.{seen_stays}
use Rattle.ob_objects.proofs.SlotChanges.{written}
use Rattle.ob_objects.proofs.slots.Slots.keep_place.Goals as goal

pub returns-in-Some-clause-objects : goal.returns-in-Some-clause-objects
returns-in-Some-clause-objects g c =
    let raw = sym c.slot_mut.ensures.value ∙ ap option_copied_mut c.in-Some.is in
    seen_stays (λ (slot : Slot _ _). slot.object) c.args.self.now.map.entries _ c.args.id (Some _)
    (written c.args.self.now.map.entries _ c.args.id c.in-Some.slot.now _ raw (c.slot_mut.follows.holds _))
    (ap (option_and_then (λ (slot : Slot _ _). slot.object)) (sym raw))

pub returns-clause-objects : goal.returns-clause-objects
returns-clause-objects g c =
    let raw = sym c.slot_mut.ensures.value ∙ ap option_copied_mut c.in_default.is in
    let left = ap (λ m. m.entries) c.slot_mut.follows.holds-at-none in
    seen_stays (λ (slot : Slot _ _). slot.object) c.slot_mut.follows.lender-at-none.map.entries c.insert.new.self.entries c.id.inside.0 (Some _)
    (λ q. c.in_ok-insert.ensures.updates.0 q)
    (ap (option_and_then (λ (slot : Slot _ _). slot.object)) (sym (ap (lookup (nat_eq c.id.inside.0)) left ∙ ap (λ k. lookup (nat_eq k) c.args.self.now.map.entries) c.id.view_is ∙ raw)))
    ∙ ap (λ es. parts (λ (slot : Slot _ _). slot.object) (by_id es)) left
