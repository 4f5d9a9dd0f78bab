-- The walk stops, and the turn at its stop ends the lookup.
use Rattle.std.proofs.Common.{subst}
use Rattle.ob_lookup.specs.Look.{next_at, Turn, Goes}
use Rattle.ob_lookup.specs.Walk.{place_of, text_of}
use Rattle.ob_lookup.proofs.Turns.{if_ok, if_again, on_err, again_left, stop_wants, looks_by_turn, wants_by_turn}
use Rattle.ob_lookup.proofs.cached.look_from_cached.Goals as goal

pub returns-clause-left : goal.returns-clause-left
returns-clause-left g c =
    if_ok _ _ c.at_stop.result (λ next turn. again_left next c.args.left (next_at c.args.mode c.args.left c.walk_cached.result) turn) c.at_stop.ensures.turn

pub returns-clause-goes : goal.returns-clause-goes
returns-clause-goes g c =
    if_ok _ _ c.at_stop.result
    (λ next turn s p end shows of goes.
    looks_by_turn g.T.TypeSet.procedures s p c.args.mode c.args.left (place_of p c.args.start) (text_of c.args.start) c.walk_cached.result end
    (c.walk_cached.ensures.stop s p shows of) (c.walk_cached.ensures.meets s shows)
    (subst (λ (t : Turn). Goes g.T.TypeSet.procedures s p c.args.mode c.args.left t end) turn goes)) c.at_stop.ensures.turn

pub returns-clause-again : goal.returns-clause-again
returns-clause-again g c =
    if_ok _ _ c.at_stop.result
    (λ next turn. if_again next _ _
    (λ wants s p shows of.
    wants_by_turn g.T.TypeSet.procedures s p c.args.mode (place_of p c.args.start) (text_of c.args.start) c.walk_cached.result (c.walk_cached.ensures.stop s p shows of) (c.walk_cached.ensures.meets s shows) wants)
    (stop_wants next c.args.mode c.args.left c.walk_cached.result turn)) c.at_stop.ensures.turn

pub returns-clause-wants : goal.returns-clause-wants
returns-clause-wants g c =
    on_err _ _ c.at_stop.result
    (λ wants s p shows of.
    wants_by_turn g.T.TypeSet.procedures s p c.args.mode (place_of p c.args.start) (text_of c.args.start) c.walk_cached.result (c.walk_cached.ensures.stop s p shows of) (c.walk_cached.ensures.meets s shows) wants)
    c.at_stop.ensures.wants
