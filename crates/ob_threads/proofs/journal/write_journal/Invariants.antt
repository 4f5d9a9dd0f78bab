-- The segments so far were written.
use Rattle.std.proofs.Common.{map, take}
use Rattle.std.specs.Arc.{arc_value}
use Rattle.std.specs.Io.KnownBytes.{Appends}
use Rattle.ob_entries.specs.Lines.{journal_lines}
use Rattle.ob_standard.specs.Standard.{standard}
use Rattle.ob_threads.proofs.journal.write_journal.Given as goal

abbrev pub invariant-loop-segment : goal.invariant-loop-segment
invariant-loop-segment g l =
    Appends (g.W.Write.contents l.fn.writer) (g.W.Write.contents l.writer) (journal_lines standard.type_name l.seats (take l.segment-index (map arc_value l.sealed)))
