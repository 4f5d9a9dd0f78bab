-- What is written through the reference is the object of the slot, whose place stays.
use Rattle.std.proofs.Common.{◌≡◌, ◌∙◌, ap, sym, refl, nat_eq, Some}
use Rattle.std.specs.Option.{option_copied_mut, option_and_then}
use Rattle.std.specs.Map.{lookup}
use Rattle.ob_objects.specs.declared.slots.Slot.{Slot}
use Rattle.ob_objects.proofs.ById.{seen_stays, seen_written, part_stays}
use Rattle.ob_objects.proofs.SlotChanges.{ChangesAt, written, on_lent, filled_then, was_filled, has_object}
use Rattle.ob_objects.proofs.slots.Slots.object_mut.Goals as goal

pub returns : goal.returns
returns g c =
    let raw : lookup (nat_eq c.args.id) c.args.self.now.map.entries ≡ Some c.in_ok-slot.slot.now = sym c.slot_mut.ensures.value ∙ ap option_copied_mut c.in_ok-slot.was in
    let then : (w : Slot g.row.F.Denot g.row.I.Denot) → ChangesAt c.args.id (Some w) c.args.self.now.map.entries (c.slot_mut.follows.lender w).map.entries =
    λ w. written c.args.self.now.map.entries (c.slot_mut.follows.lender w).map.entries c.args.id c.in_ok-slot.slot.now w raw (c.slot_mut.follows.holds w) in (
      (
        refl,
        λ w. on_lent c.as_mut.result c.in_ok-slot.slot.now.object c.as_mut.ensures.value (λ x is. record {
          objects = seen_written (λ (slot : Slot _ _). slot.object) c.args.self.now.map.entries _ c.args.id (Some _)
              (then _) x w (ap (option_and_then (λ (slot : Slot _ _). slot.object)) raw ∙ is) refl;
          places = part_stays (λ (slot : Slot _ _). slot.place) c.args.self.now.map.entries _ c.args.id (Some _)
              (then _) (ap (option_and_then (λ (slot : Slot _ _). slot.place)) (sym raw));
          filled = filled_then c.args.self.now (c.slot_mut.follows.lender (record { object = Some w; place = c.in_ok-slot.slot.now.place })) c.args.id
              (Some (record { object = Some w; place = c.in_ok-slot.slot.now.place })) (then (record { object = Some w; place = c.in_ok-slot.slot.now.place })) (λ _ free _. has_object w c.in_ok-slot.slot.now.place free);
        }),
        record {
          objects = seen_stays (λ (slot : Slot _ _). slot.object) c.args.self.now.map.entries _ c.args.id (Some _) (then _) (ap (option_and_then (λ (slot : Slot _ _). slot.object)) (sym raw));
          places = part_stays (λ (slot : Slot _ _). slot.place) c.args.self.now.map.entries _ c.args.id (Some _) (then _) (ap (option_and_then (λ (slot : Slot _ _). slot.place)) (sym raw));
          filled = filled_then c.args.self.now (c.slot_mut.follows.lender c.in_ok-slot.slot.now) c.args.id (Some c.in_ok-slot.slot.now) (then c.in_ok-slot.slot.now) (λ filled free unnamed. absurd (was_filled c.args.self.now c.args.id c.in_ok-slot.slot.now raw filled free unnamed));
        },
      ),
      record {
        writes_back = tt;
        value = c.as_mut.ensures.value ∙ sym (ap (option_and_then (λ (slot : Slot _ _). slot.object)) raw);
      },
    )
