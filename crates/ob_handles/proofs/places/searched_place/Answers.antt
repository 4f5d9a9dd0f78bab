-- What was found under an object stands where it was found.
use Rattle.std.proofs.Common.{◌≡◌, ℕ, Some, slice_get, subst}
use Rattle.ob_handles.specs.Counts.{count_of}
use Rattle.ob_handles.proofs.Counted.{counted_in_full}
use Rattle.ob_handles.proofs.places.searched_place.Goals as goal

pub returns : goal.returns
returns c =
    let full = c.in_ok-place.ensures in
    subst (λ (o : ℕ). slice_get c.args.numbers.now.entries c.in_ok-place.place ≡ Some (o, count_of c.args.numbers.now.entries o)) c.object.view_is
    (counted_in_full c.args.numbers.now.entries c.object.inside.0 c.in_ok-place.place c.in_ok-place.field-0-1.now c.in_ok-place.field-0-2.now full.entry full.key full.value)
