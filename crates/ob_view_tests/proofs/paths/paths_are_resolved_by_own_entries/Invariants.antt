-- The book that was just opened, with no opening row, in which any publication may stand.
use Rattle.std.proofs.Common.{[]}
use Rattle.ob_view_tests.proofs.paths.paths_are_resolved_by_own_entries.Given as goal

abbrev pub ghosts-resolves_shown : goal.ghosts-resolves_shown
ghosts-resolves_shown g a = record { book = a.opened.seen.book; opening = []; leads = λ publications. Unit {0} }
