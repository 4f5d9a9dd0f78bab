use Rattle.ob_lookup.proofs.Seen.{closed_from_sound}
use Rattle.ob_lookup.proofs.closed.sound_is_closed.Goals as goal

pub returns : goal.returns
returns g c = closed_from_sound
