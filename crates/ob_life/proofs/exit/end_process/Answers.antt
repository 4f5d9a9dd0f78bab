-- The oldest is closed, and then the next, until none is left.
use Rattle.std.proofs.Common.{◌≡◌, ◌∙◌, ◌+◌, ◌<◌, [], true, All, get_or, length, ap, sym, subst, arith}
use Rattle.std.specs.Option.{is_some, option_and_then}
use Rattle.std.specs.Prelude.{AllPairs, MatchOption, false}
use Rattle.ob_model.specs.State.{State, is_live, process_of}
use Rattle.ob_handles.specs.Counts.{Numbers, is_listed}
use Rattle.ob_model.specs.Processes.{handles_in}
use Rattle.ob_space.specs.Namespace.{parts, state_of}
use Rattle.ob_space.specs.Orderly.{IsOrderly, IsBetweenSteps}
use Rattle.ob_life.proofs.Endings.{closing, none_goes, no_handles, first_closed, next_closed, all_closed, ended_orderly, ended_stays, few_handles}
use Rattle.ob_life.proofs.exit.end_process.Goals as goal

pub returns-in_err-ending-clause-ended : goal.returns-in_err-ending-clause-ended
returns-in_err-ending-clause-ended g c =
    let between = subst (IsBetweenSteps g.T.TypeSet.idle) (sym c.space.view_is) c.requires.between in
    rw (← c.space.view_is) (
    first_closed g.row.T-Kind.Denot g.T.TypeSet.procedures (parts c.space.inside) c.args.process c.end.new.self [] between.sound c.end.ensures.handles c.end.ensures.others
    (no_handles (state_of g.row.T-Kind.Denot (parts c.space.inside)) c.args.process between.sound (sym c.end.ensures.live ∙ ap is_some c.in_err-ending.was)))

pub returns-in_err-ending-clause-orderly : goal.returns-in_err-ending-clause-orderly
returns-in_err-ending-clause-orderly g c =
    subst (IsOrderly g.T.TypeSet.idle) (sym (returns-in_err-ending-clause-ended g c))
    (ended_orderly g.T.TypeSet.procedures g.T.TypeSet.idle c.closed_idle.ensures c.args.space.now c.args.process c.requires.between.sound c.requires.between.orderly)

pub returns-in_err-ending-clause-live : goal.returns-in_err-ending-clause-live
returns-in_err-ending-clause-live g c =
    let a = parts c.space.inside in
    let dead = sym c.end.ensures.live ∙ ap is_some c.in_err-ending.was in
    rw (← c.space.view_is) (
    subst
    (λ o. MatchOption o ((is_live (state_of g.row.T-Kind.Denot a) c.args.process ≡ false) × (state_of g.row.T-Kind.Denot (record a { processes = c.end.new.self }) ≡ state_of g.row.T-Kind.Denot a))
    (λ _. is_live (state_of g.row.T-Kind.Denot a) c.args.process ≡ true))
    (sym c.from_residual.ensures)
    (dead, none_goes g.row.T-Kind.Denot a c.args.process c.end.new.self (subst (IsBetweenSteps g.T.TypeSet.idle) (sym c.space.view_is) c.requires.between).sound dead c.end.ensures.handles c.end.ensures.others))

pub returns-clause-live : goal.returns-clause-live
returns-clause-live g c = rw (← c.space.view_is) (sym c.end.ensures.live ∙ ap is_some c.in_ok-ending.was)

pub loop-held-init : goal.loop-held-init
loop-held-init g c =
    let s = state_of g.row.T-Kind.Denot (parts c.space.inside) in
    let between = subst (IsBetweenSteps g.T.TypeSet.idle) (sym c.space.view_is) c.requires.between in
    rw (← c.space.view_is) (record {
      turn =
          first_closed g.row.T-Kind.Denot g.T.TypeSet.procedures (parts c.space.inside) c.args.process c.end.new.self c.in_ok-ending.ending.handles between.sound c.end.ensures.handles c.end.ensures.others
          (sym c.in_ok-ending.ensures.own);
      few = few_handles g.T.TypeSet.idle s c.args.process c.in_ok-ending.ending.handles c.end.new.self.handles between.sound between.orderly c.in_ok-ending.ensures.own c.end.ensures.handles;
      listed = subst (All (λ h. is_listed c.in_ok-ending.ending.touched h.object ≡ true)) c.in_ok-ending.ensures.own c.in_ok-ending.ensures.touched;
    })

pub loop-held-preserved : goal.loop-held-preserved
loop-held-preserved g c =
    let a = parts c.loop-held.space-inside in
    record {
      turn =
          next_closed g.row.T-Kind.Denot g.T.TypeSet.procedures a c.in-Some.held c.next.new.self.handles c.count_of-process_left.result (c.count_of-process_left.result + c.count_of.result) c.close.new.set c.close.new.self
          c.count_of-process_left.ensures (λ i. c.count_of-process_left.ensures i + c.count_of.ensures i) c.close.ensures.set c.close.ensures.closed
          ∙ ap (closing g.T.TypeSet.procedures (state_of g.row.T-Kind.Denot a)) (sym c.in-Some.ensures.first) ∙ c.loop-held.invariant.turn;
      few =
          let one = ap length c.in-Some.ensures.first in
          omega (arith, one, c.loop-held.invariant.few);
      listed = λ k d below. c.in-Some.ensures.touched _ ∙ c.loop-held.invariant.listed k d below;
    }

pub returns-clause-orderly : goal.returns-clause-orderly
returns-clause-orderly g c =
    subst (IsOrderly g.T.TypeSet.idle) (sym (all_closed g.T.TypeSet.procedures (state_of g.row.T-Kind.Denot (parts c.loop-held.space-inside)) _ c.loop-held.ending.handles c.in_default.ensures.first.0 c.loop-held.invariant.turn))
    (ended_orderly g.T.TypeSet.procedures g.T.TypeSet.idle c.closed_idle.ensures c.args.space.now c.args.process c.requires.between.sound c.requires.between.orderly)

pub returns-clause-left : goal.returns-clause-left
returns-clause-left g c =
    let t = state_of g.row.T-Kind.Denot (parts c.loop-held.space-inside) in
    ended_stays g.T.TypeSet.procedures c.args.space.now t c.args.process (all_closed g.T.TypeSet.procedures t _ c.loop-held.ending.handles c.in_default.ensures.first.0 c.loop-held.invariant.turn)
    c.requires.between.sound c.requires.between.settled (subst (λ (s : State _ _ _ _). AllPairs (λ a b. a.number < b.number) s.processes) c.space.view_is c.view.ensures.rising) (is_listed c.into_touched-touched.result)
    (λ k d below.
    let object = (get_or (handles_in c.args.space.now c.args.process) k d).object in
    ap (λ (n : Numbers). is_listed n object) c.into_touched-touched.ensures ∙ c.in_default.ensures.touched object ∙ c.loop-held.invariant.listed k d below)
    c.view.result.local (subst (λ (s : State _ _ _ _). c.view.result.local ≡ option_and_then (λ x. x.map) (process_of s c.args.process)) c.space.view_is c.view.ensures.local)
