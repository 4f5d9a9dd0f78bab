-- Each step's calls on an object, one step after another.
use Rattle.ob_laws.proofs.WholeLives.{whole_life}
use Rattle.ob_laws.proofs.lifetime_law.Goals as goal

pub returns : goal.returns
returns g c = whole_life
