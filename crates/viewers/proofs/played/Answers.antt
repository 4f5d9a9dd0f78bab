-- All publications that lead through a run may be made, and no others.
use Rattle.std.proofs.Common.{refl}
use Rattle.viewers.proofs.played.Goals as goal

pub outcome_of-requires-clause-named : goal.outcome_of-requires-clause-named
outcome_of-requires-clause-named g c κs within = record { says = λ ps leads. leads; may = λ ps leads. leads; rows = λ first. refl }
