use Rattle.std.proofs.Common.{◌≡◌, map, take}
use Rattle.ob_key.specs.Entries as entries
use Rattle.ob_key.proofs.table.KeyTable.read.Given as goal

-- the entries so far are those of the pieces so far
abbrev pub invariant-loop-piece : goal.invariant-loop-piece
invariant-loop-piece l = l.entries.items ≡ map (λ piece. entries.entry_of piece.now) (take l.piece-index l.piece-items)
