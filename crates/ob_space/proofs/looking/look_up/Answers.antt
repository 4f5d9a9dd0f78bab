-- What holds whatever opens are pending holds of those that are.
use Rattle.ob_space.proofs.Results.{IfOk-map, OnErr-map}
use Rattle.ob_space.proofs.looking.look_up.Goals as goal

pub returns-clause-end : goal.returns-clause-end
returns-clause-end g c =
    let s = c.args.space.now in
    IfOk-map _ _ c.look_with.result (λ look told. told s.pending) c.look_with.ensures.end

pub returns-clause-wants : goal.returns-clause-wants
returns-clause-wants g c =
    let s = c.args.space.now in
    OnErr-map _ _ c.look_with.result (λ told end. told s.pending end) c.look_with.ensures.wants
