-- The book that was just opened, with no opening row, in which any publication may stand.
use Rattle.std.proofs.Common.{[]}
use Rattle.ob_view_tests.proofs.viewers.a_viewer_sees_what_is_shown.Given as goal

abbrev pub ghosts-by_turns : goal.ghosts-by_turns
ghosts-by_turns g a = record { book = a.opened.seen.book; opening = []; leads = λ publications. Unit {0} }
