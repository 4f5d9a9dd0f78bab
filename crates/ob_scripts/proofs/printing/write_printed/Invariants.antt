use Rattle.std.proofs.Common.{◌≤◌, length}
use Rattle.std.specs.Vec.{vec_capacity}
use Rattle.ob_output.specs.Printed.{printed_bytes}
use Rattle.ob_output.proofs.Gathered.{GathersUpTo}
use Rattle.ob_scripts.proofs.printing.write_printed.Given as goal

abbrev pub invariant-loop-rest : goal.invariant-loop-rest
invariant-loop-rest g l =
    GathersUpTo (g.W.Write.contents l.initial.writer) (g.W.Write.contents l.writer) l.initial.block.items (printed_bytes l.text) (printed_bytes l.rest) l.block.items
    × (vec_capacity l.initial.block ≤ vec_capacity l.block)

abbrev pub decreases-loop-rest : goal.decreases-loop-rest
decreases-loop-rest g l = length l.rest
