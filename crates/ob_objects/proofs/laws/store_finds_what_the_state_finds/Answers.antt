use Rattle.ob_objects.proofs.Shown.{store_finds}
use Rattle.ob_objects.proofs.laws.store_finds_what_the_state_finds.Goals as goal

pub returns : goal.returns
returns g c = store_finds
