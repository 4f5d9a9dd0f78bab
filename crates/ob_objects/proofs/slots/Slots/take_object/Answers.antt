-- The object leaves its slot; where no place is kept, the slot goes.
use Rattle.std.proofs.Common.{◌∙◌, ap, sym, refl, Some, None}
use Rattle.std.specs.Option.{option_copied_mut, option_and_then}
use Rattle.indexmap.specs.IndexMap.{with_value_at}
use Rattle.ob_objects.specs.declared.slots.Slot.{Slot}
use Rattle.ob_objects.proofs.ById.{seen_removed}
use Rattle.ob_objects.proofs.SlotChanges.{lent_at, written_at, removed_at, taken_then, changed_again, absent_goes, was_filled, not_some_none, has_place}
use Rattle.ob_objects.proofs.slots.Slots.take_object.Goals as goal

pub returns-in_err-index-clause-gone : goal.returns-in_err-index-clause-gone
returns-in_err-index-clause-gone g c =
    seen_removed (λ (slot : Slot _ _). slot.object) c.args.self.now.map.entries c.args.self.now.map.entries c.args.id None
    (absent_goes c.args.id c.args.self.now.map.entries c.in_err-index.ensures) refl

pub returns-in_err-object : goal.returns-in_err-object
returns-in_err-object g c =
    let raw = sym (ap option_copied_mut (sym c.in_ok-slot.was) ∙ c.get_index_mut.ensures.value ∙ lent_at c.args.self.now.map c.args.id c.in_ok-index.index c.in_ok-index.ensures) in
    let done = taken_then c.args.self.now (record { map = with_value_at c.args.self.now.map c.in_ok-index.index (record { object = c.take.new.self; place = c.in_ok-slot.slot.now.place }); guesses = c.args.self.now.guesses }) c.args.id c.in_ok-slot.slot.now (Some _) raw
    (written_at c.args.self.now.map c.args.id c.in_ok-index.index c.in_ok-index.ensures _ c.get_index_mut.ensures.unique) c.take.ensures.after refl
    (λ filled _ unnamed. absurd (was_filled c.args.self.now c.args.id c.in_ok-slot.slot.now raw filled (sym c.take.ensures.value ∙ c.in_err-object.was) unnamed)) in
    record {
      taken = c.from_residual-in_err-object.ensures ∙ sym c.in_err-object.was ∙ c.take.ensures.value ∙ ap (option_and_then (λ (slot : Slot _ _). slot.object)) (sym raw);
      gone = done.0;
      places = done.1;
      filled = done.2;
    }

pub returns-then-is_some : goal.returns-then-is_some
returns-then-is_some g c =
    let raw = sym (ap option_copied_mut (sym c.in_ok-slot.was) ∙ c.get_index_mut.ensures.value ∙ lent_at c.args.self.now.map c.args.id c.in_ok-index.index c.in_ok-index.ensures) in
    let done = taken_then c.args.self.now (record { map = with_value_at c.args.self.now.map c.in_ok-index.index (record { object = c.take.new.self; place = c.in_ok-slot.slot.now.place }); guesses = c.args.self.now.guesses }) c.args.id c.in_ok-slot.slot.now (Some _) raw
    (written_at c.args.self.now.map c.args.id c.in_ok-index.index c.in_ok-index.ensures _ c.get_index_mut.ensures.unique) c.take.ensures.after refl
    (λ _ _ unnamed. absurd (has_place c.in_ok-slot.slot.now.place (sym c.is_some.ensures ∙ c.if-is_some.true) unnamed)) in
    record {
      taken = sym c.in_ok-object.was ∙ c.take.ensures.value ∙ ap (option_and_then (λ (slot : Slot _ _). slot.object)) (sym raw);
      gone = done.0;
      places = done.1;
      filled = done.2;
    }

pub returns : goal.returns
returns g c =
    let raw = sym (ap option_copied_mut (sym c.in_ok-slot.was) ∙ c.get_index_mut.ensures.value ∙ lent_at c.args.self.now.map c.args.id c.in_ok-index.index c.in_ok-index.ensures) in
    let done = taken_then c.args.self.now (record { map = c.swap_remove_index.new.self; guesses = c.args.self.now.guesses }) c.args.id c.in_ok-slot.slot.now None raw
    (changed_again c.args.id (Some _) None c.args.self.now.map.entries _ c.swap_remove_index.new.self.entries
    (written_at c.args.self.now.map c.args.id c.in_ok-index.index c.in_ok-index.ensures _ c.get_index_mut.ensures.unique)
    (removed_at c.args.self.now.map c.args.id c.in_ok-index.index c.in_ok-index.ensures _ c.swap_remove_index.new.self c.swap_remove_index.result c.swap_remove_index.ensures.entry c.swap_remove_index.ensures.updates))
    refl (sym (not_some_none c.in_ok-slot.slot.now.place (sym c.is_some.ensures ∙ c.if-is_some.false))) (λ _ _ _. refl) in
    record {
      taken = sym c.in_ok-object.was ∙ c.take.ensures.value ∙ ap (option_and_then (λ (slot : Slot _ _). slot.object)) (sym raw);
      gone = done.0;
      places = done.1;
      filled = done.2;
    }
