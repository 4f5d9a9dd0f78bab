-- The child's variables are those that are handed on to it, and its process variable names it.
use Rattle.std.proofs.Common.{◌≡◌, ℕ, ap, cond, sym, subst, ◌∙◌}
use Rattle.ob_model.specs.declared.reply.Given.{Given}
use Rattle.ob_model.specs.Processes.{values_in}
use Rattle.ob_requests.specs.Commands.{given_process}
use Rattle.ob_requests.specs.Tables.{variables_in, value_in, HasTable}
use Rattle.ob_requests.specs.Variables.{Variables as Seen, with_process}
use Rattle.ob_requests.specs.declared.variables.Variables.{Variables}
use Rattle.ob_effects.proofs.Answered.{child_told, child_variables, childless_variables}
use Rattle.ob_effects.proofs.asking.begin_child.Goals.{in-Process, in_default}
use Rattle.ob_effects.proofs.asking.begin_child.Goals as goal

-- the child has the number that room was made for, and its variables were made for
pub begin-requires : goal.begin-requires
begin-requires c =
    let told = child_told c.args.command.now c.args.process _ c.args.core.now c.run.new.self c.in_ok-reply.reply c.args.inherit _ _
    c.state_is_sound.ensures c.requires.child c.in_ok-reply.ensures.done.1 c.in-Process.is in
    let child : c.in-Process.child ≡ c.next_process-next.result = told.0 ∙ sym c.next_process-next.ensures in
    record {
      room = subst (HasTable c.room_for_variables.new.self.handles) (sym child) c.in_ok-room_for_variables.ensures.room;
      begins = λ variable.
          let kept = c.handed_on.ensures.others variable in
          let begins = c.in_ok-own.ensures.begins variable in
          (kept.0 ∙ begins.0, kept.1 ∙ (begins.1 ∙ ap (λ (n : ℕ). (variables_in c.room_for_variables.new.self).tickets n variable) (sym child)));
    }

pub returns-clause-begun : goal.returns-clause-begun
returns-clause-begun c = elim c.match-reply.branch [
  | in-Process w ↦
      let told = child_told c.args.command.now c.args.process _ c.args.core.now c.run.new.self c.in_ok-reply.reply c.args.inherit _ _
      c.state_is_sound.ensures c.requires.child c.in_ok-reply.ensures.done.1 w.in-Process.is in
      child_variables (variables_in c.args.variables.now) (variables_in c.room_for_variables.new.self) (variables_in w.begin.new.self) (variables_in c.apply.new.self)
      c.args.process c.args.variable.now c.args.inherit w.in-Process.child _ (values_in c.run.new.self w.in-Process.child) (value_in c.in_ok-own.own) (value_in w.handed_on.result) _
      c.in_ok-room_for_variables.ensures.same (c.in_ok-own.ensures.values ∙ ap (λ (x : Seen). λ variable. cond c.args.inherit (x.values c.args.process variable) 0) c.in_ok-room_for_variables.ensures.same) w.handed_on.ensures.values told.1 w.in-Process.is w.begin.ensures.variables
      (c.apply.ensures.applied
      ∙ (ap (λ (x : Variables). with_process (variables_in x) c.args.variable.now (given_process c.in_ok-reply.reply.given)) w.variables-is
      ∙ ap (λ (thing : Given). with_process (variables_in w.begin.new.self) c.args.variable.now (given_process thing)) w.in-Process.is))
  | in_default w ↦
      childless_variables (variables_in c.args.variables.now) (variables_in c.room_for_variables.new.self) (variables_in c.apply.new.self) c.args.process c.args.variable.now c.args.inherit c.in_ok-reply.reply.given
      (λ n hs is. w.in_default.not-Process n hs is) c.in_ok-room_for_variables.ensures.same
      (c.apply.ensures.applied ∙ ap (λ (x : Variables). with_process (variables_in x) c.args.variable.now (given_process c.in_ok-reply.reply.given)) w.variables-is)
]
