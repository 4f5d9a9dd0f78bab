use Rattle.ob_model.proofs.Turned.{temporary_itself, permanent_itself, nameless_left, others_left}
use Rattle.ob_model.proofs.laws.permanence_is_of_one_object.Goals as goal

pub returns-clause-temporary : goal.returns-clause-temporary
returns-clause-temporary g c = temporary_itself

pub returns-clause-permanent : goal.returns-clause-permanent
returns-clause-permanent g c = permanent_itself

pub returns-clause-nameless : goal.returns-clause-nameless
returns-clause-nameless g c = nameless_left

pub returns-clause-others : goal.returns-clause-others
returns-clause-others g c = others_left
