-- The object of the slot stays.
use Rattle.std.proofs.Common.{◌∙◌, ap, sym, not, Some, None}
use Rattle.std.specs.Option.{option_copied_mut, option_and_then}
use Rattle.ob_objects.specs.declared.slots.Slot.{Slot}
use Rattle.ob_objects.proofs.ById.{seen_stays}
use Rattle.ob_objects.proofs.SlotChanges.{written, changed_again, not_some_none}
use Rattle.ob_objects.proofs.slots.Slots.forget_place.Goals as goal

pub returns-then-is_none-clause-objects : goal.returns-then-is_none-clause-objects
returns-then-is_none-clause-objects g c =
    let raw = sym c.slot_mut.ensures.value ∙ ap option_copied_mut c.in-Some.is in
    seen_stays (λ (slot : Slot _ _). slot.object) c.args.self.now.map.entries c.clear.new.self.map.entries c.args.id None
    (changed_again c.args.id (Some _) None c.args.self.now.map.entries _ c.clear.new.self.map.entries
    (written c.args.self.now.map.entries _ c.args.id c.in-Some.slot.now _ raw (c.slot_mut.follows.holds _)) c.clear.ensures)
    (sym (not_some_none c.in-Some.slot.now.object (c.is_none.ensures ∙ ap not c.if-is_none.true)) ∙ ap (option_and_then (λ (slot : Slot _ _). slot.object)) (sym raw))

pub returns-else-is_none-clause-objects : goal.returns-else-is_none-clause-objects
returns-else-is_none-clause-objects g c =
    let raw = sym c.slot_mut.ensures.value ∙ ap option_copied_mut c.in-Some.is in
    seen_stays (λ (slot : Slot _ _). slot.object) c.args.self.now.map.entries _ c.args.id (Some _)
    (written c.args.self.now.map.entries _ c.args.id c.in-Some.slot.now _ raw (c.slot_mut.follows.holds _))
    (ap (option_and_then (λ (slot : Slot _ _). slot.object)) (sym raw))
