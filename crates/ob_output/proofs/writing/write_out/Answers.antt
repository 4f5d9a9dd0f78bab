use Rattle.ob_output.proofs.Writers.{writes_on}
use Rattle.ob_output.proofs.writing.write_out.Goals as goal

pub loop-rest-preserved : goal.loop-rest-preserved
loop-rest-preserved g c =
    writes_on _ (g.W.Write.contents c.loop-rest.writer) _ _ c.loop-rest.rest.now c.in-Ok.count c.loop-rest.invariant c.in-Ok.ensures.bytes
