use Rattle.std.proofs.Common.{◌+◌, ◌-◌, vec_len}
use Rattle.ob_output.proofs.Readers.{ReadsUpTo}
use Rattle.ob_output.proofs.reading.read_all.Given as goal

abbrev pub invariant-loop-text : goal.invariant-loop-text
invariant-loop-text g l = ReadsUpTo (g.R.Read.remaining l.initial.reader) (g.R.Read.remaining l.reader) l.text.items l.limit

abbrev pub decreases-loop-text : goal.decreases-loop-text
decreases-loop-text g l = l.limit + 1 - vec_len l.text
