-- The first entry of the seat is the first of its entries.
use Rattle.std.proofs.Common.{arith, ◌≡◌, ◌∙◌, ◌==◌, ◌∷◌, ◌++◌, drop, ap, sym, suc, eq-eqb}
use Rattle.std.proofs.lemmas.Bool.{ne_eqb}
use Rattle.ob_segments.specs.Journal.{whole}
use Rattle.ob_agreement.specs.Agreement.{entries_of, first_number}
use Rattle.ob_agreement.proofs.Seats.{none_more, place_is, passes_here}
use Rattle.ob_agreement.proofs.compared.first_of.Goals as goal

pub returns-then-entry-seat : goal.returns-then-entry-seat
returns-then-entry-seat g c =
    let own = ap (λ e. e.seat) (sym c.entry.view_is) ∙ c.if-entry-seat.true in
    let here = passes_here (λ e. e.seat == c.args.seat) (whole c.args.journal.now.journal) c.loop-place.place c.entry_at-entry.result.now (omega (arith, c.loop-place-test.true, c.len-place-end.ensures)) (place_is (whole c.args.journal.now.journal) c.loop-place.place c.entry_at-entry.result.now c.entry_at-entry.ensures) (eq-eqb c.entry_at-entry.result.now.seat c.args.seat own) in
    ap (λ e. e.number) c.entry.view_is
    ∙ sym (ap first_number (here ∙ ap (λ l. l ++ c.entry_at-entry.result.now ∷ entries_of c.args.seat (drop (suc c.loop-place.place) (whole c.args.journal.now.journal))) c.loop-place.invariant))

pub loop-place-preserved : goal.loop-place-preserved
loop-place-preserved g c =
    none_more (λ e. e.seat == c.args.seat) (whole c.args.journal.now.journal) c.loop-place.place c.entry_at-entry.result.now (omega (arith, c.loop-place-test.true, c.len-place-end.ensures))
    (place_is (whole c.args.journal.now.journal) c.loop-place.place c.entry_at-entry.result.now c.entry_at-entry.ensures)
    (ne_eqb c.entry_at-entry.result.now.seat c.args.seat (λ own. c.if-entry-seat.false (ap (λ e. e.seat) c.entry.view_is ∙ own)))
    ∙ c.loop-place.invariant
