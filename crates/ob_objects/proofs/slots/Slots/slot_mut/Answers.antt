-- What is written through the reference is the slot at the place of the id.
use Rattle.std.proofs.Common.{◌∙◌, refl}
use Rattle.ob_objects.proofs.SlotChanges.{lent_at, written_at}
use Rattle.ob_objects.proofs.slots.Slots.slot_mut.Goals as goal

pub returns : goal.returns
returns g c = (
  (refl, λ w _. written_at c.args.self.now.map c.args.id c.in_ok-place.place c.in_ok-place.ensures w c.get_index_mut.ensures.unique, refl),
  record {
    writes_back = tt;
    value = c.get_index_mut.ensures.value ∙ lent_at c.args.self.now.map c.args.id c.in_ok-place.place c.in_ok-place.ensures;
  },
)
