use Rattle.std.proofs.Common.{◌≡◌, ◌+◌, ◌==◌, [], ◌++◌, map, length}
use Rattle.std.specs.List.{slice_split}
use Rattle.std.specs.Option.{option_map_or}
use Rattle.ob_plain.specs.Arguments as arguments
use Rattle.ob_plain.proofs.pieces.split.Given as goal

-- the pieces so far, and those of what is left, are all
abbrev pub invariant-loop-left : goal.invariant-loop-left
invariant-loop-left l =
    (map (λ piece. piece.now) l.pieces.items ++ option_map_or (λ text. slice_split (λ b. b == arguments.semicolon) text.now) l.left []) ≡ arguments.pieces l.args

abbrev pub decreases-loop-left : goal.decreases-loop-left
decreases-loop-left l = option_map_or (λ text. 1 + length text.now) l.left 0
