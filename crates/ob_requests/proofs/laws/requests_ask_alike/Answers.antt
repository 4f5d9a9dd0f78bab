-- The variables' values lead alike, and so do the handles that are meant by them.
use Rattle.ob_requests.proofs.Alike.{asks_alike}
use Rattle.ob_requests.proofs.laws.requests_ask_alike.Goals as goal

pub returns : goal.returns
returns g c = asks_alike
