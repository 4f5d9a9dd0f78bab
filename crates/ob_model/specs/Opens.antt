-- An open past its refusals: the type test, and a grant, which duplicates have too; or the parse of
-- the object that its name reached.
--
-- Sources: ZwOpenDirectoryObject, ZwOpenEvent, OBJECT_ATTRIBUTES structure (OBJ_CASE_INSENSITIVE,
-- OBJ_OPENLINK; Windows Driver Kit); Windows Internals, Object Manager
-- (object handles, parse methods). The order of refusals is this profile.
use Rattle.std.specs.Prelude.{◌≡◌, ℕ, List, Bool, true, false, ◌||◌, not, [], ◌∷◌, Option, None, Some, Result, MatchResult}
use Rattle.ob_base.specs.declared.status.Status.{Status}
use Rattle.ob_base.specs.declared.status.Status.TheVariants.{Success, ObjectTypeMismatch, InsufficientResources}
use Rattle.ob_base.specs.Attrs.{has_flag, inherit_flag, exclusive_flag, case_insensitive_flag, open_link_flag}
use Rattle.ob_model.specs.declared.reply.Answer.{Answer}
use Rattle.ob_model.specs.declared.reply.Answer.TheVariants.{Ticket}
use Rattle.ob_model.specs.declared.reply.Given.TheVariants.{Handle}
use Rattle.ob_model.specs.declared.state.Wanted.{Wanted}
use Rattle.ob_model.specs.declared.state.Wanted.TheVariants.{Anything, Directory, Link, Kind}
use Rattle.ob_model.specs.State.{State, is_store_full}
use Rattle.ob_model.specs.PendingOpens.{with_pending}
use Rattle.ob_model.specs.declared.terms.Mode.{Mode}
use Rattle.ob_model.specs.Looks.{Look, At, Vacant, Parse, Refused}
use Rattle.ob_model.specs.declared.terms.Reason.{Reason}
use Rattle.ob_model.specs.declared.terms.Reason.TheVariants.{Opened}
use Rattle.ob_model.specs.Procedures.{Procedures}
use Rattle.ob_model.specs.Settle.{settle}
use Rattle.ob_model.specs.declared.terms.GrantOptions.{GrantOptions}
use Rattle.ob_model.specs.Grants.{Grants}
use Rattle.ob_model.specs.Types.{is_wanted_at}
use Rattle.ob_model.specs.Refusals.{gives, IsRefused, Unless}

-- what a command's flags ask of a handle
abbrev pub options_by : ℕ → GrantOptions
options_by attrs = record { inherit = has_flag inherit_flag attrs; exclusive = has_flag exclusive_flag attrs }

-- the type that an open of an object asks for: a kind, or any type at all
abbrev pub type_wanted : {K : Type 0} → Option K → Wanted K
type_wanted None = Anything
type_wanted (Some kind) = Kind kind

-- whether a link is asked for
abbrev pub is_link_wanted : {K : Type 0} → Wanted K → Bool
is_link_wanted Anything = false
is_link_wanted Directory = false
is_link_wanted Link = true
is_link_wanted (Kind kind) = false

-- how the name of an open is looked up: a link that the last component names is followed, unless a
-- link is asked for or the flag OPENLINK is set
abbrev pub open_mode : {K : Type 0} → Wanted K → ℕ → Mode
open_mode wanted attrs = record {
  create = false;
  fold = has_flag case_insensitive_flag attrs;
  follow = not (is_link_wanted wanted || has_flag open_link_flag attrs);
}

module _ {K T F I : Type 0} (g : Procedures K T F I) where
  -- a handle to an object is granted, and given with this status, or it is refused
  abbrev pub GivesHandle : State K T F I → ℕ → ℕ → GrantOptions → Reason → Status → Answer → State K T F I → Type 0
  GivesHandle s p o asked reason status answer t =
      (result : Result ℕ Status) × (u : State K T F I) × Grants g s p o asked reason result u
      × MatchResult result (λ value. (answer ≡ gives status (Handle value)) × (t ≡ settle g u)) (λ refusal. IsRefused s refusal answer t)

  -- an object that was found is opened where it is of the type that is asked for
  abbrev pub OpensAt : State K T F I → ℕ → ℕ → Wanted K → Status → ℕ → Answer → State K T F I → Type 0
  OpensAt s p attrs wanted status o answer t =
      Unless ((not (is_wanted_at g s o wanted), ObjectTypeMismatch) ∷ []) s answer t (GivesHandle s p o (options_by attrs) Opened status answer t)

  -- an open that reached a parsing object is pending from then on, under the next number as its ticket: the
  -- rest goes to the parse, with so many reparses left
  abbrev pub Begins : State K T F I → ℕ → ℕ → Wanted K → ℕ → List ℕ → ℕ → Answer → State K T F I → Type 0
  Begins s p attrs wanted o rest n answer t =
      Unless ((is_store_full s, InsufficientResources) ∷ []) s answer t ((answer ≡ Ticket s.next_id) × (t ≡ settle g (with_pending s p attrs wanted o rest n)))

  -- what the lookup of an open's name leads to: a refusal, an object that is opened, or a parse
  abbrev pub Opens : State K T F I → ℕ → ℕ → Wanted K → Look → Answer → State K T F I → Type 0
  Opens s p attrs wanted (Refused status) answer t = IsRefused s status answer t
  Opens s p attrs wanted (At o) answer t = OpensAt s p attrs wanted Success o answer t
  Opens s p attrs wanted (Vacant d c) answer t = ⊥
  Opens s p attrs wanted (Parse o rest n) answer t = Begins s p attrs wanted o rest n answer t
