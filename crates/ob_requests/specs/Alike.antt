-- Alike variables: in two alike states they lead to the same handles, and so the same requests ask alike, and their
-- replies leave alike variables.
--
-- Source: this profile.
use Rattle.std.specs.Prelude.{◌≡◌, ℕ, ◌⊎◌, true, List}
use Rattle.std.specs.Str.{bytes_eq}
use Rattle.ob_model.specs.declared.command.Command.{Command}
use Rattle.ob_model.specs.declared.reply.Reply.{Reply}
use Rattle.ob_model.specs.declared.reply.Answer.TheVariants.{Done}
use Rattle.ob_model.specs.declared.reply.Event.TheVariants.{Start}
use Rattle.ob_model.specs.State.{State}
use Rattle.ob_model.specs.Procedures.{Procedures}
use Rattle.ob_model.specs.Sound.{IsSound}
use Rattle.ob_model.specs.Step.{Step}
use Rattle.ob_model.specs.Grants.{IsHandleValue}
use Rattle.ob_model.specs.Alike.{AreAlike, IsHeld, LeadAlike, AreAlikeCommands}
use Rattle.ob_standard.specs.Standard.{StandardKind}
use Rattle.ob_lines.specs.declared.request.Request.{Request}
use Rattle.ob_requests.specs.Variables.{Variables}
use Rattle.ob_requests.specs.Commands.{IsCommand, variables_after}

module _ {K T F I : Type 0} where
  -- the values of a variable that isn't set in either state, or values of handles of a process that lead alike
  pub data AreAlikeValues (s t : State K T F I) (p : ℕ) (value other : ℕ) : Type 0 where
    unset : value ≡ 0 → other ≡ 0 → AreAlikeValues s t p value other
    set : IsHeld s p value → LeadAlike s t p value other → IsHandleValue value → IsHandleValue other → AreAlikeValues s t p value other

  -- variables of the same processes, whose values are alike for each process, and no two of them one handle's; and for each
  -- the same context is kept, and an open of the same ticket waits
  pub record AreAlikeVariables (s t : State K T F I) (variables others : Variables) : Type 0 where
    pub processes : (variable : List ℕ) → variables.processes variable ≡ others.processes variable
    pub values : (p : ℕ) (variable : List ℕ) → AreAlikeValues s t p (variables.values p variable) (others.values p variable)
    pub contexts : (p : ℕ) (variable : List ℕ) → variables.contexts p variable ≡ others.contexts p variable
    pub tickets : (p : ℕ) (variable : List ℕ) → variables.tickets p variable ≡ others.tickets p variable
    pub apart : (p : ℕ) (a b : List ℕ) → variables.values p a ≡ variables.values p b → (variables.values p a ≡ 0) ⊎ (bytes_eq a b ≡ true)
    pub apart_too : (p : ℕ) (a b : List ℕ) → others.values p a ≡ others.values p b → (others.values p a ≡ 0) ⊎ (bytes_eq a b ≡ true)

-- in alike states, with alike variables, a request of a process spells alike commands
abbrev pub RequestsAskAlike : (T F I : Type 0) → Type 0
RequestsAskAlike T F I =
    (s t : State StandardKind T F I) (p : ℕ) (request : Request (List ℕ)) (variables others : Variables) (c d : Command StandardKind)
    → AreAlike s t → AreAlikeVariables s t variables others → IsCommand request variables p c → IsCommand request others p d → AreAlikeCommands s t p c d

-- and whatever steps the machine makes for those commands, the variables after their replies are alike in the states that
-- it leaves
abbrev pub RepliesLeaveAlikeVariables : (T F I : Type 0) → Type 0
RepliesLeaveAlikeVariables T F I =
    (g : Procedures StandardKind T F I) (s t u v : State StandardKind T F I) (p : ℕ) (request : Request (List ℕ)) (variables others : Variables)
    (c d : Command StandardKind) (a b : Reply)
    → IsSound s → IsSound t → AreAlike s t → AreAlikeVariables s t variables others → IsCommand request variables p c → IsCommand request others p d
    → Step g s (Start p c) (Done a) u → Step g t (Start p d) (Done b) v
    → AreAlikeVariables u v (variables_after request p a variables) (variables_after request p b others)
