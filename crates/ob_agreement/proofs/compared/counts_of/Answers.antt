-- Each entry is counted at its seat.
use Rattle.std.proofs.Common.{◌≡◌, ◌∙◌, ◌<◌, refl, ap, sym, arith}
use Rattle.std.proofs.lemmas.List.{get_or-replicate}
use Rattle.ob_segments.specs.Journal.{whole}
use Rattle.ob_agreement.proofs.Seats.{place_is, counted_at, uncounted_at, few_so_far}
use Rattle.ob_agreement.proofs.compared.counts_of.Goals.{then-seat-lt1024, else-seat-lt1024}
use Rattle.ob_agreement.proofs.compared.counts_of.Goals as goal

pub loop-place-init : goal.loop-place-init
loop-place-init g c = (refl, λ seat less. get_or-replicate 1024 seat 0 0 less)

pub overflow_add-counts : goal.overflow_add-counts
overflow_add-counts g c = omega (arith, c.loop-place.invariant.1 c.entry.inside.seat c.if-seat-lt1024.true, few_so_far c.entry.inside.seat (whole c.args.journal.now.journal) c.loop-place.place)

pub loop-place-preserved : goal.loop-place-preserved
loop-place-preserved g c = elim c.if-seat-lt1024.branch [
  | then-seat-lt1024 w ↦
      counted_at (whole c.args.journal.now.journal) c.loop-place.place c.entry_at-entry.result.now (omega (arith, c.loop-place-test.true, c.len-place-end.ensures)) (place_is (whole c.args.journal.now.journal) c.loop-place.place c.entry_at-entry.result.now c.entry_at-entry.ensures) c.loop-place.counts c.entry.inside.seat _ c.if-seat-lt1024.counts
      (ap (λ e. e.seat) (sym c.entry.view_is)) w.if-seat-lt1024.true refl w.counts-is c.loop-place.invariant
  | else-seat-lt1024 w ↦
      uncounted_at (whole c.args.journal.now.journal) c.loop-place.place c.entry_at-entry.result.now (omega (arith, c.loop-place-test.true, c.len-place-end.ensures)) (place_is (whole c.args.journal.now.journal) c.loop-place.place c.entry_at-entry.result.now c.entry_at-entry.ensures) c.loop-place.counts c.entry.inside.seat c.if-seat-lt1024.counts
      (ap (λ e. e.seat) (sym c.entry.view_is)) w.if-seat-lt1024.false w.counts-is c.loop-place.invariant
]
