-- What was found under an id stands where it was found.
use Rattle.std.proofs.Common.{Some, subst}
use Rattle.ob_objects.specs.Slots.{IsPlaceOf}
use Rattle.ob_objects.proofs.SlotChanges.{place_by_key}
use Rattle.ob_objects.proofs.slots.searched_place.Goals as goal

pub returns : goal.returns
returns g c =
    let full = c.in_ok-place.ensures in
    subst (λ id. IsPlaceOf id c.args.map.now.entries (Some c.in_ok-place.place)) c.id.view_is
    (place_by_key c.args.map.now.entries c.in_ok-place.place c.in_ok-place.field-0-1.now c.id.inside.0 c.in_ok-place.field-0-2.now full.key full.entry full.value)
