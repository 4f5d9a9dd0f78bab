-- What was written so far.
use Rattle.std.proofs.Common.{◌++◌, take}
use Rattle.std.specs.Io.KnownBytes.{Appends}
use Rattle.ob_entries.specs.Lines.{entry_lines, header_line}
use Rattle.ob_standard.specs.Standard.{standard}
use Rattle.ob_threads.proofs.journal.write_segment.Given as goal

abbrev pub invariant-loop-entry : goal.invariant-loop-entry
invariant-loop-entry g l =
    Appends (g.W.Write.contents l.fn.writer) (g.W.Write.contents l.writer)
    (header_line l.seats l.segment.number l.segment.first ++ entry_lines standard.type_name (take l.entry-index l.segment.entries))
