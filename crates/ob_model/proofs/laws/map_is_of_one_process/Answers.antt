use Rattle.ob_model.proofs.Maps.{map_is_set, others_mapped}
use Rattle.ob_model.proofs.laws.map_is_of_one_process.Goals as goal

pub returns-clause-set : goal.returns-clause-set
returns-clause-set g c = map_is_set

pub returns-clause-others : goal.returns-clause-others
returns-clause-others g c = others_mapped
