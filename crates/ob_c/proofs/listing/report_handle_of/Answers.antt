-- The object of the handle is there.
use Rattle.ob_base.specs.Handle.{key_of}
use Rattle.ob_c.proofs.Held.{handle_has_body}
use Rattle.ob_c.proofs.listing.report_handle_of.Goals as goal

pub handle_reported-requires : goal.handle_reported-requires
handle_reported-requires c =
    handle_has_body c.read-space.result.now c.state_is_sound.ensures c.args.process (key_of c.args.value) c.in-Some.held c.in-Some.ensures
