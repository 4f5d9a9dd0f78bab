-- The book that was just opened, with no opening row, in which any publication may stand.
use Rattle.std.proofs.Common.{[]}
use Rattle.ob_view_tests.proofs.viewers.viewers_beside_a_writer_never_go_back.Given as goal

abbrev pub ghosts-beside : goal.ghosts-beside
ghosts-beside g a = record { book = a.opened.seen.book; opening = []; leads = λ publications. Unit {0} }
