-- The passes so far are those of the first seats, and a part is left for each of the others.
use Rattle.std.proofs.Common.{◌≡◌, ◌+◌, map}
use Rattle.std.specs.List.{range_with_len}
use Rattle.ob_locked.specs.Opened.{fresh_pass}
use Rattle.ob_locked.proofs.opened.cut_passes.Given as goal

abbrev pub invariant-loop-seat : goal.invariant-loop-seat
invariant-loop-seat g l = (l.passes.items ≡ map fresh_pass (range_with_len 0 l.seat)) × (l.rest.amount ≡ 0) × (l.rest.parts + l.seat ≡ l.seats)
