-- Behind the last entry it is the least of all.
use Rattle.std.proofs.Common.{arith, ap, ◌≡◌, [], subst}
use Rattle.std.proofs.lemmas.List.{take_all}
use Rattle.ob_segments.specs.Journal.{whole}
use Rattle.ob_agreement.specs.Agreement.{entries_of, IsLeastWithout, IsLesser}
use Rattle.ob_agreement.proofs.Seats.{least_entry, place_is}
use Rattle.ob_agreement.proofs.agreement.beyond_in_journal.Goals as goal

pub returns : goal.returns
returns g c =
    subst (λ es. IsLeastWithout (λ seat. entries_of seat es ≡ []) c.args.seats c.loop-place.least) (take_all c.loop-place.place (whole c.args.journal.now.journal) (omega (arith, c.loop-place-test.false, c.len-place-end.ensures))) c.loop-place.invariant

pub loop-place-preserved : goal.loop-place-preserved
loop-place-preserved g c =
    least_entry (whole c.args.journal.now.journal) c.loop-place.place c.entry_at-entry.result.now (omega (arith, c.loop-place-test.true, c.len-place-end.ensures))
    (place_is (whole c.args.journal.now.journal) c.loop-place.place c.entry_at-entry.result.now c.entry_at-entry.ensures) c.args.seats c.loop-place.least c.lesser-least.result
    (subst (λ s. IsLesser c.args.seats s c.loop-place.least c.lesser-least.result) (ap (λ e. e.seat) c.entry.view_is) c.lesser-least.ensures) c.loop-place.invariant
