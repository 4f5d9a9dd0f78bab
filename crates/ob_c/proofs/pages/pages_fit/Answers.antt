use Rattle.ob_c.proofs.PagesLemmas.{pages_fit}
use Rattle.ob_c.proofs.pages.pages_fit.Goals as goal

pub returns : goal.returns
returns c = pages_fit
