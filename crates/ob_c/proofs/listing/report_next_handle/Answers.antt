-- The object of the handle is there.
use Rattle.ob_c.proofs.Held.{next_has_body}
use Rattle.ob_c.proofs.listing.report_next_handle.Goals as goal

pub handle_reported-requires : goal.handle_reported-requires
handle_reported-requires c =
    next_has_body c.read-space.result.now c.state_is_sound.ensures c.args.process c.args.context.now c.in-Some.held c.in-Some.ensures
