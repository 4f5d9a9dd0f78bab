-- What stands at a place under an id is what is found under it.
use Rattle.std.proofs.Common.{◌∙◌, sym, eqb-true}
use Rattle.ob_objects.proofs.SlotChanges.{place_at}
use Rattle.ob_objects.proofs.slots.is_at.Goals as goal

pub returns-in-Some : goal.returns-in-Some
returns-in-Some g c = λ same.
    place_at c.args.map.now.entries c.args.place c.in-Some.key.now c.args.id c.in-Some.field-0-1.now
    (eqb-true c.in-Some.key.now c.id.inside.0 same ∙ c.id.view_is) (sym c.in-Some.ensures.entry) c.in-Some.ensures.value
