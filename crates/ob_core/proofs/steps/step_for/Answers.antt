-- The step of an open is that of its command, and so is that of what is no open.
use Rattle.std.proofs.Common.{sym, subst, List, ℕ}
use Rattle.ob_model.specs.declared.command.Command.{Command}
use Rattle.ob_model.specs.declared.reply.Event.TheVariants.{Start}
use Rattle.ob_model.specs.declared.state.Wanted.{Wanted}
use Rattle.ob_model.specs.declared.state.Wanted.TheVariants as wanted
use Rattle.ob_model.specs.Opens.{type_wanted}
use Rattle.ob_model.specs.Step.{Step, OpensName}
use Rattle.ob_space.proofs.Results.{IfOk-map}
use Rattle.ob_opens.specs.Waiting.{answer_of}
use Rattle.ob_core.proofs.AtOnce.{no_open}
use Rattle.ob_core.proofs.steps.step_for.Goals as goal

pub returns-in-OpenDirectory-clause-step : goal.returns-in-OpenDirectory-clause-step
returns-in-OpenDirectory-clause-step g c =
    let s = c.args.space.now in
    IfOk-map _ _ c.open_name.result (λ started done.
    subst (λ (command : Command _). Step g.T.TypeSet.procedures s (Start c.args.process command) (answer_of started) c.open_name.new.space) (sym c.in-OpenDirectory.is)
    (subst (λ (name : List ℕ). OpensName g.T.TypeSet.procedures s c.args.process c.in-OpenDirectory.root name c.in-OpenDirectory.attrs wanted.Directory (answer_of started) c.open_name.new.space) c.as_slice.ensures done)) c.open_name.ensures.step

pub returns-in-OpenObject-clause-step : goal.returns-in-OpenObject-clause-step
returns-in-OpenObject-clause-step g c =
    let s = c.args.space.now in
    IfOk-map _ _ c.open_name-in-OpenObject.result (λ started done.
    subst (λ (command : Command _). Step g.T.TypeSet.procedures s (Start c.args.process command) (answer_of started) c.open_name-in-OpenObject.new.space) (sym c.in-OpenObject.is)
    (subst (λ (name : List ℕ). OpensName g.T.TypeSet.procedures s c.args.process c.in-OpenObject.root name c.in-OpenObject.attrs (type_wanted c.in-OpenObject.want) (answer_of started) c.open_name-in-OpenObject.new.space) c.as_slice-in-OpenObject.ensures
    (subst (λ (wanted : Wanted _). OpensName g.T.TypeSet.procedures s c.args.process c.in-OpenObject.root c.as_slice-in-OpenObject.result.now c.in-OpenObject.attrs wanted (answer_of started) c.open_name-in-OpenObject.new.space) c.type_wanted-wanted.ensures done))) c.open_name-in-OpenObject.ensures.step

pub reply_for-requires-clause-no_open : goal.reply_for-requires-clause-no_open
reply_for-requires-clause-no_open g c κs within =
    no_open c.args.command.now c.in_default.not-OpenDirectory c.in_default.not-OpenLink c.in_default.not-OpenObject
