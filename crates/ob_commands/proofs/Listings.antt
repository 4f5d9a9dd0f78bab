-- A page of a directory: what is asked for past the refusals is answered by the page, or by its type.
use Rattle.std.proofs.Common.{◌≡◌, ℕ, Bool, true, false, not, nat_lt, ◌||◌, [], ◌∷◌, refl, ap, ◌∙◌, sym, subst}
use Rattle.std.specs.Prelude.{Option, Some, MatchOption}
use Rattle.std.specs.Option.{option_and_then, option_map_or, is_some}
use Rattle.ob_base.specs.declared.status.Status.TheVariants.{ObjectTypeMismatch, InvalidParameter, InvalidHandle, ProcessGone}
use Rattle.ob_base.specs.Handle.{key_of}
use Rattle.ob_model.specs.declared.reply.Answer.{Answer}
use Rattle.ob_model.specs.declared.state.Held.{Held}
use Rattle.ob_model.specs.State.{State, is_live, is_directory, held_of}
use Rattle.ob_model.specs.Enumeration.{enumerated, largest_room, context_used, page_answer}
use Rattle.ob_model.specs.Procedures.{Procedures}
use Rattle.ob_model.specs.Refusals.{answers, IsRefused, Unless}
use Rattle.ob_model.specs.Step.{TellsPage, QueriesDirectory}
use Rattle.ob_space.specs.Early.{is_page_refused, lacks_handle, lacks_directory}

module _ {K T F I : Type 0} (g : Procedures K T F I) (s : State K T F I) (p handle context room : ℕ) (single restart : Bool) (answer : Answer) (held : Held)
    (live : is_live s p ≡ true) (fits : nat_lt largest_room room ≡ false) (found : Some held ≡ option_and_then (held_of s p) (key_of handle)) where
  -- past the refusals of the process, the room and the handle
  tells : TellsPage g s held.object (context_used restart context) room single answer s → QueriesDirectory g s p handle context room single restart answer s
  tells told =
      let Does = λ (h : Held). TellsPage g s h.object (context_used restart context) room single answer s in
      let Taken = MatchOption (option_and_then (held_of s p) (key_of handle)) (IsRefused s InvalidHandle answer s) Does in
      subst (λ (b : Bool). Unless ((not b, ProcessGone) ∷ (nat_lt largest_room room, InvalidParameter) ∷ []) s answer s Taken) (sym live)
      (subst (λ (b : Bool). Unless ((not true, ProcessGone) ∷ (b, InvalidParameter) ∷ []) s answer s Taken) (sym fits)
      (subst (λ (o : Option Held). MatchOption o (IsRefused s InvalidHandle answer s) Does) found told))

  -- a directory has its page told
  pub page_told : is_directory s held.object ≡ true → answer ≡ page_answer (enumerated g s held.object (context_used restart context) room single)
      → QueriesDirectory g s p handle context room single restart answer s
  page_told is told =
      let Does = (answer ≡ page_answer (enumerated g s held.object (context_used restart context) room single)) × (s ≡ s) in
      tells (subst (λ (b : Bool). Unless ((not b, ObjectTypeMismatch) ∷ []) s answer s Does) (sym is) (told, refl))

  -- what isn't a directory is refused
  pub no_page_told : is_directory s held.object ≡ false → answer ≡ answers ObjectTypeMismatch → QueriesDirectory g s p handle context room single restart answer s
  no_page_told isnt told =
      let Does = (answer ≡ page_answer (enumerated g s held.object (context_used restart context) room single)) × (s ≡ s) in
      tells (subst (λ (b : Bool). Unless ((not b, ObjectTypeMismatch) ∷ []) s answer s Does) (sym isnt) (told, refl))

-- what is asked of a directory, with a room that fits, isn't refused early
pub not_refused : {K T F I : Type 0} (s : State K T F I) (p handle room : ℕ) (held : Held) → is_live s p ≡ true → nat_lt largest_room room ≡ false
    → Some held ≡ option_and_then (held_of s p) (key_of handle) → is_directory s held.object ≡ true → is_page_refused s p handle room ≡ false
not_refused s p handle room held live fits found is =
    ap (λ (b : Bool). not b || nat_lt largest_room room || lacks_handle s p handle || lacks_directory s p handle) live
    ∙ ap (λ (b : Bool). b || lacks_handle s p handle || lacks_directory s p handle) fits
    ∙ ap (λ (o : Option Held). not (is_some o) || option_map_or (λ h. not (is_directory s h.object)) o false) (sym found)
    ∙ ap (λ (b : Bool). not b) is
