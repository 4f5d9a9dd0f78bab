-- Steps that are done.
use Rattle.std.proofs.Common.{◌≡◌, ℕ, Bool, true, false, not, List, [], ◌∷◌, ap, ◌∙◌, sym, subst}
use Rattle.std.specs.Prelude.{Option, None, Some, MatchOption, Ok, Err}
use Rattle.std.specs.Option.{option_and_then}
use Rattle.ob_base.specs.declared.status.Status.{Status}
use Rattle.ob_base.specs.declared.status.Status.TheVariants.{Success, ProcessGone, InvalidHandle, InsufficientResources, ObjectTypeMismatch}
use Rattle.ob_base.specs.Handle.{key_of}
use Rattle.ob_model.specs.declared.reply.Answer.{Answer}
use Rattle.ob_model.specs.declared.reply.Given.TheVariants.{Handle, Process}
use Rattle.ob_model.specs.declared.state.Held.{Held}
use Rattle.ob_model.specs.declared.state.Wanted.{Wanted}
use Rattle.ob_model.specs.State.{State, is_live, held_of}
use Rattle.ob_model.specs.declared.terms.Reason.{Reason}
use Rattle.ob_model.specs.declared.terms.Reason.TheVariants.{Opened, Duplicated}
use Rattle.ob_model.specs.Procedures.{Procedures}
use Rattle.ob_model.specs.Settle.{IsSettled, settle}
use Rattle.ob_model.specs.declared.terms.GrantOptions.{GrantOptions}
use Rattle.ob_model.specs.Grants.{first_refusal, Grants}
use Rattle.ob_model.specs.Closing.{closed_handle}
use Rattle.ob_model.specs.Types.{is_wanted_at}
use Rattle.ob_model.specs.Refusals.{Unless, IsRefused, answers, gives}
use Rattle.ob_model.specs.Opens.{GivesHandle, OpensAt, options_by}
use Rattle.ob_model.specs.Processes.{values_in, is_crowded, begun, ended, Duplicates, MakesChild, Exits}
use Rattle.ob_model.specs.Step.{Closes}
use Rattle.ob_model.proofs.Staying.{granted_settled, begun_settled, settled_itself}

module _ {K T F I : Type 0} (refusals : List (Bool × Status)) (s : State K T F I) (answer : Answer) (t : State K T F I) (Does : Type 0) where
  -- a step of which no refusal holds does what it does
  pub is_done : first_refusal refusals ≡ None → Does → Unless refusals s answer t Does
  is_done e done = subst (λ (o : Option Status). MatchOption o Does (λ told. IsRefused s told answer t)) (sym e) done

module _ {K T F I : Type 0} (g : Procedures K T F I) where
  -- a close
  pub closes : (s t : State K T F I) (p handle : ℕ) (answer : Answer) (h : Held) → is_live s p ≡ true → option_and_then (held_of s p) (key_of handle) ≡ Some h
      → answer ≡ answers Success → t ≡ settle g (closed_handle g s h) → Closes g s p handle answer t
  closes s t p handle answer h live found told left =
      is_done ((not (is_live s p), ProcessGone) ∷ []) s answer t _ (ap (λ (b : Bool). first_refusal ((not b, ProcessGone) ∷ [])) live)
      (subst (λ (o : Option Held). MatchOption o (IsRefused s InvalidHandle answer t) (λ x. (answer ≡ answers Success) × (t ≡ settle g (closed_handle g s x)))) (sym found)
      (told, left))

  -- where all stays, all stays when a handle is granted
  pub granted_stays : (s u : State K T F I) (p o value : ℕ) (asked : GrantOptions) (reason : Reason) → IsSettled s → Grants g s p o asked reason (Ok value) u → u ≡ settle g u
  granted_stays s u p o value asked reason settled granted =
      sym (settled_itself g u (subst IsSettled (sym granted.2) (granted_settled g s p value o reason asked.inherit settled)))

  -- a handle is given, or is refused
  module _ (s : State K T F I) (p o : ℕ) (asked : GrantOptions) (reason : Reason) (status : Status) (answer : Answer) (u : State K T F I) where
    pub given : (value : ℕ) → IsSettled s → Grants g s p o asked reason (Ok value) u → answer ≡ gives status (Handle value) → GivesHandle g s p o asked reason status answer u
    given value settled granted told = (Ok value, u, granted, (told, granted_stays s u p o value asked reason settled granted))

    pub denied : (refusal : Status) → Grants g s p o asked reason (Err refusal) u → answer ≡ answers refusal → GivesHandle g s p o asked reason status answer u
    denied refusal refused told = (Err refusal, u, refused, (told, refused.1))

  -- an open of an object of the type that is asked for
  pub opens_at : (s t : State K T F I) (p o attrs : ℕ) (wanted : Wanted K) (status : Status) (answer : Answer) → is_wanted_at g s o wanted ≡ true
      → GivesHandle g s p o (options_by attrs) Opened status answer t → OpensAt g s p attrs wanted status o answer t
  opens_at s t p o attrs wanted status answer is =
      is_done ((not (is_wanted_at g s o wanted), ObjectTypeMismatch) ∷ []) s answer t (GivesHandle g s p o (options_by attrs) Opened status answer t)
      (ap (λ (b : Bool). first_refusal ((not b, ObjectTypeMismatch) ∷ [])) is)

  -- a duplicate of a handle
  pub duplicates : (s t : State K T F I) (p handle to : ℕ) (inherit : Bool) (answer : Answer) (h : Held) → is_live s p ≡ true → is_live s to ≡ true
      → option_and_then (held_of s p) (key_of handle) ≡ Some h → GivesHandle g s to h.object (record { inherit = inherit; exclusive = false }) Duplicated Success answer t
      → Duplicates g s p handle to inherit answer t
  duplicates s t p handle to inherit answer h live there found gives_one =
      is_done ((not (is_live s p), ProcessGone) ∷ (not (is_live s to), ProcessGone) ∷ []) s answer t _
      (ap (λ (b : Bool). first_refusal ((not b, ProcessGone) ∷ (not (is_live s to), ProcessGone) ∷ [])) live ∙ ap (λ (b : Bool). first_refusal ((false, ProcessGone) ∷ (not b, ProcessGone) ∷ [])) there)
      (subst (λ (o : Option Held). MatchOption o (IsRefused s InvalidHandle answer t)
      (λ x. GivesHandle g s to x.object (record { inherit = inherit; exclusive = false }) Duplicated Success answer t)) (sym found) gives_one)

  -- a new process, and the end of one
  pub makes_child : (s t : State K T F I) (p : ℕ) (inherit : Bool) (answer : Answer) → is_live s p ≡ true → is_crowded s p inherit ≡ false → IsSettled s
      → answer ≡ gives Success (Process s.next_process (values_in (begun g s p inherit) s.next_process)) → t ≡ begun g s p inherit → MakesChild g s p inherit answer t
  makes_child s t p inherit answer live room settled told begins =
      is_done ((not (is_live s p), ProcessGone) ∷ (is_crowded s p inherit, InsufficientResources) ∷ []) s answer t _
      (ap (λ (b : Bool). first_refusal ((not b, ProcessGone) ∷ (is_crowded s p inherit, InsufficientResources) ∷ [])) live
      ∙ ap (λ (b : Bool). first_refusal ((false, ProcessGone) ∷ (b, InsufficientResources) ∷ [])) room)
      (told, begins ∙ sym (settled_itself g (begun g s p inherit) (begun_settled g s p inherit settled)))

  pub exits : (s t : State K T F I) (p : ℕ) (answer : Answer) → is_live s p ≡ true → answer ≡ answers Success → t ≡ settle g (ended g s p) → Exits g s p answer t
  exits s t p answer live told left =
      is_done ((not (is_live s p), ProcessGone) ∷ []) s answer t _ (ap (λ (b : Bool). first_refusal ((not b, ProcessGone) ∷ [])) live) (told, left)
