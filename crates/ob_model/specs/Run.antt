-- Runs: lists of entries, each a step from the state that the one before left.
--
-- Source: this profile.
use Rattle.std.specs.Prelude.{◌≡◌, ℕ, ◌+◌, List, [], ◌∷◌}
use Rattle.ob_model.specs.declared.reply.Answer.{Answer}
use Rattle.ob_model.specs.declared.reply.Event.{Event}
use Rattle.ob_model.specs.State.{State}
use Rattle.ob_model.specs.Procedures.{Procedures}
use Rattle.ob_model.specs.Opening.{opening}
use Rattle.ob_model.specs.Step.{Step}

-- one entry of a history: its number, the seat whose caller asked, the event, and the answer
pub record Entry (K : Type 0) : Type 0 where
  pub number : ℕ
  pub seat : ℕ
  pub event : Event K
  pub answer : Answer

module _ {K T F I : Type 0} (g : Procedures K T F I) where
  -- from the state s, after n entries, these entries lead to the state t
  abbrev pub RunFrom : State K T F I → ℕ → List (Entry K) → State K T F I → Type 0
  RunFrom s n [] t = t ≡ s
  RunFrom s n (e ∷ es) t = (u : State K T F I) × (e.number ≡ n + 1) × Step g s e.event e.answer u × RunFrom u (n + 1) es t

  -- these entries are a run: from the opening state, with this first value of the set, to the state t
  abbrev pub Run : T → List (Entry K) → State K T F I → Type 0
  Run first entries t = RunFrom (opening first) 0 entries t
