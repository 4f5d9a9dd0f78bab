-- The open that waits under the variable is given up.
use Rattle.std.proofs.Common.{◌∙◌, ap, refl, sym, subst, []}
use Rattle.ob_model.specs.declared.reply.Event.TheVariants.{Abandon}
use Rattle.ob_model.specs.declared.reply.ParseRun.TheVariants.{Unrun}
use Rattle.ob_requests.specs.Tables.{variables_in}
use Rattle.ob_requests.specs.Variables.{Variables, with_variable}
use Rattle.ob_effects.specs.Waiting.{variables_answered}
use Rattle.ob_seats.specs.Kept.{AreHeld}
use Rattle.ob_seats.proofs.Held.{held_ended}
use Rattle.ob_seats.proofs.Told.{adds_none}
use Rattle.ob_seats.proofs.waiting.give_up.Goals as goal

pub returns-then-is_made-clause-held : goal.returns-then-is_made-clause-held
returns-then-is_made-clause-held g c =
    subst (λ (w : Variables). AreHeld w.tickets c.take-parsing.new.self)
    (sym (c.give_up.ensures ∙ ap (λ (w : Variables). with_variable w c.args.process c.args.variable.now 0) c.clear_ticket.ensures))
    (held_ended (variables_in c.args.variables.now) c.args.process c.args.variable.now c.args.ticket c.args.waits.now c.take-parsing.new.self c.requires.under c.requires.some c.requires.held
    c.take-parsing.ensures.others)

pub returns-else-is_made-clause-held : goal.returns-else-is_made-clause-held
returns-else-is_made-clause-held g c =
    subst (λ (w : Variables). AreHeld w.tickets c.take-parsing.new.self)
    (sym (c.give_up.ensures ∙ ap (λ (w : Variables). with_variable w c.args.process c.args.variable.now 0) c.clear_ticket.ensures))
    (held_ended (variables_in c.args.variables.now) c.args.process c.args.variable.now c.args.ticket c.args.waits.now c.take-parsing.new.self c.requires.under c.requires.some c.requires.held
    c.take-parsing.ensures.others)

pub returns-then-is_made-clause-played : goal.returns-then-is_made-clause-played
returns-then-is_made-clause-played g c =
    let was = variables_in c.args.variables.now in
    let told = c.abandon-pass.ensures.made c.if-is_made.true in (
      told.0,
      told.1,
      (
        told.2 ∙ ap (λ n. Abandon n Unrun) (c.take-parsing.ensures.own ∙ sym c.requires.under),
        c.give_up.ensures ∙ (ap (λ (w : Variables). with_variable w c.args.process c.args.variable.now 0) c.clear_ticket.ensures ∙ ap (variables_answered was c.args.process c.args.variable.now) (sym told.3)),
      ),
    )

pub returns-else-is_made-clause-begun : goal.returns-else-is_made-clause-begun
returns-else-is_made-clause-begun g c = (
  [],
  c.abandon-pass.ensures.unmade c.if-is_made.false ∙ adds_none _,
  (refl, refl, c.give_up.ensures ∙ ap (λ (w : Variables). with_variable w c.args.process c.args.variable.now 0) c.clear_ticket.ensures),
)
