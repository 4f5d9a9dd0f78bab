-- Each header closes the segment before.
use Rattle.ob_journal.proofs.Cut.{told_in_segments}
use Rattle.ob_journal.proofs.laws.what_is_told_is_in_segments.Goals as goal

pub returns : goal.returns
returns c = told_in_segments
