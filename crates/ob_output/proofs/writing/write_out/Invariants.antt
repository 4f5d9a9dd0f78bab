use Rattle.std.proofs.Common.{length}
use Rattle.ob_output.proofs.Writers.{WritesUpTo}
use Rattle.ob_output.proofs.writing.write_out.Given as goal

abbrev pub invariant-loop-rest : goal.invariant-loop-rest
invariant-loop-rest g l = WritesUpTo (g.W.Write.contents l.initial.writer) (g.W.Write.contents l.writer) l.bytes l.rest

abbrev pub decreases-loop-rest : goal.decreases-loop-rest
decreases-loop-rest g l = length l.rest
