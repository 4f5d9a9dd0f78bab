-- The one choice of the abstract machine: which unused value a new handle gets.
--
-- Source: handles are values of the system's choice (Windows Driver Kit); this profile leaves it open.
use Rattle.std.specs.Prelude.{◌≡◌, ℕ, List, [], ◌∷◌, ◌++◌, Option, None, Some, option_map}
use Rattle.ob_model.specs.declared.reply.Answer.{Answer}
use Rattle.ob_model.specs.declared.reply.Answer.TheVariants.{Done, Ticket}
use Rattle.ob_model.specs.declared.reply.Event.{Event}
use Rattle.ob_model.specs.declared.reply.Event.TheVariants.{Start, Resume, Abandon}
use Rattle.ob_model.specs.declared.reply.Given.{Given}
use Rattle.ob_model.specs.declared.reply.Given.TheVariants.{Nothing, Handle, Text, Process, Page}
use Rattle.ob_model.specs.declared.state.Held.{Held}
use Rattle.ob_model.specs.State.{State}
use Rattle.ob_model.specs.Alike.{handle_given, receiver}
use Rattle.ob_model.specs.Grants.{IsFreeValue}
use Rattle.ob_model.specs.PendingOpens.{pending_of}
use Rattle.ob_model.specs.Procedures.{Procedures}
use Rattle.ob_model.specs.Sound.{IsSound}
use Rattle.ob_model.specs.Step.{Step}

-- handles, where the one that was opened last has this value instead of its own
abbrev pub with_last_value : ℕ → List Held → List Held
with_last_value value [] = []
with_last_value value (h ∷ []) = record h { value = value } ∷ []
with_last_value value (h ∷ i ∷ hs) = h ∷ with_last_value value (i ∷ hs)

-- an answer, where the handle that it gives has this value instead of its own
abbrev pub given_under : ℕ → Given → Given
given_under value Nothing = Nothing
given_under value (Handle other) = Handle value
given_under value (Text text) = Text text
given_under value (Process number values) = Process number values
given_under value (Page entries context) = Page entries context

abbrev pub answer_under : ℕ → Answer → Answer
answer_under value (Done reply) = Done (record reply { given = given_under value reply.given })
answer_under value (Ticket number) = Ticket number

module _ {K T F I : Type 0} where
  -- a state, where the handle that was opened last has this value instead of its own
  abbrev pub revalued : ℕ → State K T F I → State K T F I
  revalued value s = record s { handles = with_last_value value s.handles }

  -- the process that gets the handle which an event may give: the one that asks, or that a handle is duplicated into
  abbrev pub receiver_of : State K T F I → Event K → Option ℕ
  receiver_of s (Start p command) = Some (receiver p command)
  receiver_of s (Resume ticket parse) = option_map (λ x. x.process) (pending_of s ticket)
  receiver_of s (Abandon ticket parse) = None

  -- Two answers to one event: they are the same, or both give a handle, each under a value of its own that the process
  -- which gets it doesn't use, and are the same except for these values.
  pub data IsOtherChoice (s : State K T F I) (e : Event K) (a b : Answer) : Type 0 where
    same : b ≡ a → IsOtherChoice s e a b
    under : (value p : ℕ) → handle_given b ≡ Some value → b ≡ answer_under value a → receiver_of s e ≡ Some p → IsFreeValue s p value → IsOtherChoice s e a b

module _ (K T F I : Type 0) where
  abbrev pub AnyUnusedValueWillDo : Type 0
  AnyUnusedValueWillDo =
      (g : Procedures K T F I) (s u : State K T F I) (e : Event K) (a : Answer) (p chosen value : ℕ)
      → Step g s e a u → handle_given a ≡ Some chosen → receiver_of s e ≡ Some p → IsFreeValue s p value
      → Step g s e (answer_under value a) (revalued value u)

  abbrev pub NewHandleIsLast : Type 0
  NewHandleIsLast =
      (g : Procedures K T F I) (s u : State K T F I) (e : Event K) (a : Answer) (p chosen : ℕ)
      → Step g s e a u → handle_given a ≡ Some chosen → receiver_of s e ≡ Some p
      → (h : Held) × (u.handles ≡ s.handles ++ h ∷ []) × (h.process ≡ p) × (h.value ≡ chosen)

  abbrev pub NothingElseIsChosen : Type 0
  NothingElseIsChosen =
      (g : Procedures K T F I) (s u v : State K T F I) (e : Event K) (a b : Answer)
      → IsSound s → Step g s e a u → Step g s e b v → IsOtherChoice s e a b
