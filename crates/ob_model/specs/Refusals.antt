-- The refusals of a step that come before its lookup, in their order.
--
-- Sources: OBJECT_ATTRIBUTES structure (Windows Driver Kit). Which flags a command uses, and the order of
-- refusals, are this profile.
use Rattle.std.specs.Prelude.{◌≡◌, ℕ, Bool, ◌||◌, not, nat_lt, List, [], ◌∷◌, length, MatchOption}
use Rattle.ob_base.specs.declared.status.Status.{Status}
use Rattle.ob_base.specs.declared.status.Status.TheVariants.{InvalidParameter, ObjectNameInvalid, NameTooLong, ProcessGone}
use Rattle.ob_base.specs.Attrs.{are_lawful}
use Rattle.ob_model.specs.declared.command.Place.{Place}
use Rattle.ob_model.specs.declared.command.Place.TheVariants.{At, Unnamed}
use Rattle.ob_model.specs.declared.reply.Answer.{Answer}
use Rattle.ob_model.specs.declared.reply.Answer.TheVariants.{Done}
use Rattle.ob_model.specs.declared.reply.Given.{Given}
use Rattle.ob_model.specs.declared.reply.Given.TheVariants.{Nothing}
use Rattle.ob_model.specs.Names.{is_profile_text, longest_name}
use Rattle.ob_model.specs.State.{State}
use Rattle.ob_model.specs.Grants.{first_refusal}

-- an answer that is a status and a thing that is given, and one that is a status alone
abbrev pub gives : Status → Given → Answer
gives status thing = Done (record { status = status; given = thing })

abbrev pub answers : Status → Answer
answers status = gives status Nothing

-- the refusals of a name, which come before those of handles and of the lookup
abbrev pub name_refusals : List ℕ → List (Bool × Status)
name_refusals name = (not (is_profile_text name), ObjectNameInvalid) ∷ (nat_lt longest_name (length name), NameTooLong) ∷ []

-- the refusals of an open, for a process that is live or isn't
abbrev pub open_refusals : Bool → List ℕ → ℕ → List (Bool × Status)
open_refusals live name attrs =
    (not live, ProcessGone) ∷ (not (are_lawful attrs), InvalidParameter) ∷ name_refusals name

-- the refusals of a create, by name and without one, whose other parameters are fit or not
abbrev pub create_refusals : (live fit : Bool) → Place → ℕ → List (Bool × Status)
create_refusals live fit (At root name) attrs =
    (not live, ProcessGone) ∷ (not (are_lawful attrs) || not fit, InvalidParameter) ∷ name_refusals name
create_refusals live fit Unnamed attrs =
    (not live, ProcessGone) ∷ (not (are_lawful attrs) || not fit, InvalidParameter) ∷ []

module _ {K T F I : Type 0} where
  -- a step that is refused answers the status and changes nothing
  abbrev pub IsRefused : State K T F I → Status → Answer → State K T F I → Type 0
  IsRefused s status answer t = (answer ≡ answers status) × (t ≡ s)

  -- the first of these refusals that holds, or else what the step does
  abbrev pub Unless : List (Bool × Status) → State K T F I → Answer → State K T F I → Type 0 → Type 0
  Unless refusals s answer t Does = MatchOption (first_refusal refusals) Does (λ status. IsRefused s status answer t)
