-- How what a parse procedure answers, and how a parse run ends, is seen by the procedures of a set.
use Rattle.std.specs.Prelude.{Option, None, Some}
use Rattle.std.specs.Arc.{arc_value}
use Rattle.ob_model.specs.Procedures as model
use Rattle.ob_types.specs.declared.answer.ParseAnswer.{ParseAnswer}
use Rattle.ob_types.specs.declared.answer.ParseAnswer.TheVariants.{Itself, Front, Reparse, Refused}
use Rattle.ob_types.specs.declared.run.Outcome.{Outcome}
use Rattle.ob_types.specs.declared.run.Outcome.TheVariants as run

-- the answer, in the words of the procedures
abbrev pub answer_of : {F I : Type 0} → ParseAnswer F I → model.ParseAnswer F I
answer_of Itself = model.Itself
answer_of (Front used next inner) = model.Front used next inner
answer_of (Reparse text) = model.Reparse text
answer_of (Refused k) = model.Refused k

module _ {F I : Type 0} where
  -- the end, in the words of the procedures; a lack of memory is none
  abbrev pub outcome_of : Outcome F I → Option (model.ParseOutcome F I)
  outcome_of run.Itself = Some model.EndsItself
  outcome_of (run.Made face inner) = Some (model.EndsMade (arc_value face) inner)
  outcome_of (run.Reparse text) = Some (model.EndsReparse text)
  outcome_of (run.Refused k) = Some (model.EndsRefused k)
  outcome_of run.NoMemory = None

  -- the fact holds of the face and the inner value, where an instance was made
  abbrev pub IfMade : Outcome F I → (F → I → Type 0) → Type 0
  IfMade run.Itself P = Unit {0}
  IfMade (run.Made face inner) P = P (arc_value face) inner
  IfMade (run.Reparse text) P = Unit {0}
  IfMade (run.Refused k) P = Unit {0}
  IfMade run.NoMemory P = Unit {0}
