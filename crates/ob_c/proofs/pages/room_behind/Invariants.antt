use Rattle.std.proofs.Common.{◌≡◌, ◌+◌, length, take}
use Rattle.ob_c.specs.Pages.{page_bytes}
use Rattle.ob_c.proofs.pages.room_behind.Given as goal

abbrev pub invariant-loop-entry : goal.invariant-loop-entry
invariant-loop-entry l = l.left + length (page_bytes (take l.entry-index l.entries)) ≡ l.room
