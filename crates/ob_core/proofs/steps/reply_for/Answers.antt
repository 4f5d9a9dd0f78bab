-- The steps of a duplicate, and of creates of what is made of bytes, are those of their commands.
use Rattle.std.proofs.Common.{sym, subst}
use Rattle.std.specs.Prelude.{ℕ, Option, None, IsOk, IfOk}
use Rattle.ob_model.specs.declared.command.Command.{Command}
use Rattle.ob_model.specs.declared.reply.Answer.TheVariants.{Done}
use Rattle.ob_model.specs.declared.reply.Event.TheVariants.{Start}
use Rattle.ob_model.specs.Creates.{Making}
use Rattle.ob_model.specs.Step.{CreatesAt, Step}
use Rattle.ob_space.specs.Found.{IsRefusedAtFound}
use Rattle.ob_core.proofs.steps.reply_for.Goals as goal

pub returns-in-Duplicate-clause-step : goal.returns-in-Duplicate-clause-step
returns-in-Duplicate-clause-step g c =
    subst (λ (command : Command _). IfOk c.duplicate.result (λ reply. Step g.T.TypeSet.procedures c.args.space.now (Start c.args.process command) (Done reply) c.duplicate.new.space)) (sym c.in-Duplicate.is)
    c.duplicate.ensures.step

pub returns-in-Duplicate-clause-found : goal.returns-in-Duplicate-clause-found
returns-in-Duplicate-clause-found g c =
    subst (λ (command : Command _). IsRefusedAtFound g.T.TypeSet.procedures c.args.space.now c.args.process command → IsOk c.duplicate.result) (sym c.in-Duplicate.is)
    c.duplicate.ensures.found

pub returns-in-CreateLink-clause-step : goal.returns-in-CreateLink-clause-step
returns-in-CreateLink-clause-step g c =
    let s = c.args.space.now in
    subst (λ (command : Command _). IfOk c.create-in-CreateLink.result (λ reply. Step g.T.TypeSet.procedures s (Start c.args.process command) (Done reply) c.create-in-CreateLink.new.space)) (sym c.in-CreateLink.is)
    (subst (λ (making : Option ℕ → Making _). IfOk c.create-in-CreateLink.result (λ reply. CreatesAt g.T.TypeSet.procedures s c.args.process c.in-CreateLink.place c.in-CreateLink.attrs None making (Done reply) c.create-in-CreateLink.new.space))
    c.link_to-making.ensures c.create-in-CreateLink.ensures.step)

pub returns-in-CreateObject-clause-step : goal.returns-in-CreateObject-clause-step
returns-in-CreateObject-clause-step g c =
    let s = c.args.space.now in
    subst (λ (command : Command _). IfOk c.create-in-CreateObject.result (λ reply. Step g.T.TypeSet.procedures s (Start c.args.process command) (Done reply) c.create-in-CreateObject.new.space)) (sym c.in-CreateObject.is)
    (subst (λ (making : Option ℕ → Making _). IfOk c.create-in-CreateObject.result (λ reply. CreatesAt g.T.TypeSet.procedures s c.args.process c.in-CreateObject.place c.in-CreateObject.attrs None making (Done reply) c.create-in-CreateObject.new.space))
    c.object_of-making.ensures c.create-in-CreateObject.ensures.step)
