-- The object at which an open is pending is there.
use Rattle.ob_c.proofs.PendingLemmas.{no_body}
use Rattle.ob_c.proofs.pending.pending_reported.Goals as goal

pub unreachable-requires-in_default-object : goal.unreachable-requires-in_default-object
unreachable-requires-in_default-object c =
    no_body c.read-space.result.now c.state_is_sound.ensures c.args.ticket c.in-Some.object c.in-Some.ensures c.in_default-object.ensures
