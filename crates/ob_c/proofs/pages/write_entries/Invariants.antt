use Rattle.std.proofs.Common.{◌≤◌, length, take}
use Rattle.ob_c.specs.Pages.{page_bytes}
use Rattle.ob_c.proofs.PagesLemmas.{Written}
use Rattle.ob_c.proofs.pages.write_entries.Given as goal

abbrev pub invariant-loop-entry : goal.invariant-loop-entry
invariant-loop-entry l =
    Written l.initial.buffer (page_bytes (take l.entry-index l.entries)) l.buffer l.place
    × (length (page_bytes l.entries) ≤ length l.initial.buffer)
