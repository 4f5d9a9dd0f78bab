use Rattle.std.proofs.Common.{◌≡◌, map, take}
use Rattle.ob_device.proofs.table.PathTable.read.Given as goal

-- the paths so far are the pieces so far
abbrev pub invariant-loop-piece : goal.invariant-loop-piece
invariant-loop-piece l = l.paths.items ≡ map (λ piece. piece.now) (take l.piece-index l.piece-items)
