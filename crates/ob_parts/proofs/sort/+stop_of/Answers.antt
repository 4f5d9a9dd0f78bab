-- What goes on after a part stops where the rest after it does.
use Rattle.std.proofs.lemmas.Option.{IfSome_then}
use Rattle.ob_parts.proofs.Stopped.{stops_later}
use Rattle.ob_parts.proofs.sort.+stop_of.Goals as goal

pub returns-in-Some-rest_after-clause-found : goal.returns-in-Some-rest_after-clause-found
returns-in-Some-rest_after-clause-found t c =
    IfSome_then c.stop_of.result c.stop_of.ensures.found
    (λ stop s. stops_later _ _ _ _ _ _ _ _ c.in-Some.ensures.cases.0 c.in-Some-rest_after.ensures.found s)
