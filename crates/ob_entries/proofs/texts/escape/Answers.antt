-- Each byte is escaped behind those before it.
use Rattle.ob_entries.proofs.Escaped.{escaped_more}
use Rattle.ob_entries.proofs.texts.escape.Goals as goal

pub loop-byte-preserved : goal.loop-byte-preserved
loop-byte-preserved c = escaped_more _ _ _ _ c.loop-byte-test.true c.loop-byte.invariant c.in_ok-push_escaped.ensures
