use Rattle.ob_lookup.proofs.Seen.{views_from_sound}
use Rattle.ob_lookup.proofs.closed.sound_has_views.Goals as goal

pub returns : goal.returns
returns g c = views_from_sound
