use Rattle.ob_output.proofs.Readers.{stops_after}
use Rattle.ob_output.proofs.reading.read_all.Goals as goal

pub returns-in-Err-clause-fault : goal.returns-in-Err-clause-fault
returns-in-Err-clause-fault g c =
    stops_after c.in-Err.fault _ (g.R.Read.remaining c.loop-text.reader) _ c.loop-text.text.items _ _ c.loop-text.text.ok.0 c.loop-text.invariant c.in-Err.ensures.fault
