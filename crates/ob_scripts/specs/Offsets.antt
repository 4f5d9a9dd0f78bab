-- Offsets: in a run what is added to the value of a handle variable is added in full.
--
-- Source: this profile.
use Rattle.std.specs.Prelude.{◌≡◌, ℕ, ◌+◌, ◌≤◌, List}
use Rattle.ob_model.specs.declared.command.Command.{Command}
use Rattle.ob_model.specs.declared.reply.Reply.{Reply}
use Rattle.ob_model.specs.declared.reply.Event.TheVariants.{Start}
use Rattle.ob_model.specs.Grants.{greatest_handle}
use Rattle.ob_runner.specs.Completes.{Completes}
use Rattle.ob_standard.specs.Standard.{StandardKind, standard}
use Rattle.ob_parts.specs.declared.handle.HandleForm.{HandleForm}
use Rattle.ob_lines.specs.declared.request.Request.{Request}
use Rattle.ob_requests.specs.Variables.{Variables, first_variables}
use Rattle.ob_effects.specs.Machine.{Space}
use Rattle.ob_effects.specs.Waiting.{Steps}
use Rattle.ob_requests.specs.Commands.{handle_meant, variables_after}
use Rattle.ob_parts.specs.Parts.{offset_value}

-- no variable holds more than the greatest handle value
abbrev pub HoldHandles : Variables → Type 0
HoldHandles variables = (process : ℕ) (variable : List ℕ) → variables.values process variable ≤ greatest_handle

-- at first no variable does, and none does after the steps whose reply changes variables; and with
-- such variables a handle is the sum of its variable's value and what is added to it
pub record OffsetsAreAddedInFull : Type 0 where
  pub first : HoldHandles first_variables
  pub kept : (request : Request (List ℕ)) (process : ℕ) (c : Command StandardKind) (steps : Steps) (reply : Reply) (variables : Variables) (s s' : Space) → HoldHandles variables
      → Completes standard (Start process c) steps s reply s' → HoldHandles (variables_after request process reply variables)
  pub exact : (handle : HandleForm (List ℕ)) (process : ℕ) (variables : Variables) → HoldHandles variables
      → handle_meant handle (variables.values process) ≡ variables.values process handle.variable + offset_value handle.offset
