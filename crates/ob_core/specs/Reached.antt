-- Which states a core may have: those that runs lead to.
--
-- Source: this profile.
use Rattle.std.specs.Prelude.{◌≡◌, ℕ, List, Some}
use Rattle.ob_model.specs.Choice.{receiver_of}
use Rattle.ob_model.specs.Alike.{handle_given}
use Rattle.ob_model.specs.declared.reply.Answer.{Answer}
use Rattle.ob_model.specs.declared.reply.Event.{Event}
use Rattle.ob_model.specs.Procedures.{Procedures}
use Rattle.ob_model.specs.Run.{Entry, Run}
use Rattle.ob_model.specs.State.{State}
use Rattle.ob_model.specs.Step.{Step}

module _ {K T F I : Type 0} (g : Procedures K T F I) where
  -- a run leads to the state, from the opening state with some first value of the set
  abbrev pub IsReached : State K T F I → Type 0
  IsReached s = (first : T) × (entries : List (Entry K)) × Run g first entries s

  -- the last step of a run to the state gave a handle to this process, under this value
  abbrev pub IsJustGiven : State K T F I → ℕ → ℕ → Type 0
  IsJustGiven s p value =
      (before : State K T F I) × (event : Event K) × (answer : Answer) × IsReached before × Step g before event answer s
      × (receiver_of before event ≡ Some p) × (handle_given answer ≡ Some value)
