use Rattle.std.proofs.Common.{refl, inr}
use Rattle.ob_c.proofs.texts.ntns_type_name_raw.Goals as goal

pub returns-in-None : goal.returns-in-None
returns-in-None c = inr (refl, λ text is. c.in-None.ensures.none is.0 is.1)
