use Rattle.std.proofs.Common.{◌≤◌, drop}
use Rattle.std.specs.Vec.{vec_capacity}
use Rattle.ob_output.specs.Printed.{entries_text}
use Rattle.ob_output.proofs.Gathered.{GathersUpTo}
use Rattle.ob_scripts.proofs.printing.write_entries.Given as goal

abbrev pub invariant-loop-entry : goal.invariant-loop-entry
invariant-loop-entry g l =
    GathersUpTo (g.W.Write.contents l.initial.writer) (g.W.Write.contents l.writer) l.initial.block.items (entries_text l.entries) (entries_text (drop l.entry-index l.entries)) l.block.items
    × (vec_capacity l.initial.block ≤ vec_capacity l.block)
