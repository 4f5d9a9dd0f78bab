-- So many viewers are seated, and none knows of a publication.
use Rattle.std.proofs.Common.{◌≡◌, [], length}
use Rattle.std.specs.Prelude.{All}
use Rattle.ob_view.proofs.opened.seated.Given as goal

abbrev pub invariant-loop-seat : goal.invariant-loop-seat
invariant-loop-seat g l = (length l.seated.items ≡ l._seat) × All (λ viewer. viewer ≡ []) l.seated.items
