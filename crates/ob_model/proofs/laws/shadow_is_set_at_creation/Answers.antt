use Rattle.ob_model.proofs.Shadows.{made_has_its_shadow, opened_keeps_its_shadow}
use Rattle.ob_model.proofs.laws.shadow_is_set_at_creation.Goals as goal

pub returns-clause-made : goal.returns-clause-made
returns-clause-made g c = made_has_its_shadow

pub returns-clause-opened : goal.returns-clause-opened
returns-clause-opened g c = opened_keeps_its_shadow
