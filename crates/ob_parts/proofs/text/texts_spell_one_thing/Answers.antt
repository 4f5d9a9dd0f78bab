use Rattle.ob_parts.proofs.Spelled.{spells_alike}
use Rattle.ob_parts.proofs.text.texts_spell_one_thing.Goals as goal

pub returns : goal.returns
returns c = spells_alike
