-- Each character is after those before it.
use Rattle.ob_tree_json.proofs.Characters.{characters_more}
use Rattle.ob_tree_json.proofs.text.text_of.Goals as goal

pub loop-byte-preserved : goal.loop-byte-preserved
loop-byte-preserved c = characters_more _ _ _ _ c.loop-byte-test.true c.loop-byte.invariant c.in_ok-push.ensures.bytes
