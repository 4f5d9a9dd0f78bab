-- An open whose parse ended with a text that was looked up again: each of its endings, told of the machine's states.
use Rattle.std.proofs.Common.{◌≡◌, ◌∙◌, ℕ, not, true, false, List, [], ◌∷◌, Option, None, Some, is_some, ap, refl, sym, subst}
use Rattle.std.specs.Prelude.{MatchOption, Ok, Err}
use Rattle.ob_base.specs.declared.status.Status.{Status}
use Rattle.ob_base.specs.declared.status.Status.TheVariants.{Success, ProcessGone, ObjectTypeMismatch}
use Rattle.ob_model.specs.declared.reply.Answer.{Answer}
use Rattle.ob_model.specs.declared.reply.Given.TheVariants.{Handle}
use Rattle.ob_model.specs.declared.state.PendingOpen.{PendingOpen}
use Rattle.ob_model.specs.declared.terms.GrantOptions.{GrantOptions}
use Rattle.ob_model.specs.Grants.{Grants, first_refusal, with_open, with_handle}
use Rattle.ob_model.specs.Looks.{Look, At, Refused}
use Rattle.ob_model.specs.Opens.{options_by, open_mode, GivesHandle, OpensAt, Opens}
use Rattle.ob_model.specs.Parses.{Resumes, LooksAgain}
use Rattle.ob_model.specs.PendingOpens.{pending_of, without_pending}
use Rattle.ob_model.specs.declared.terms.Reason.TheVariants.{Opened}
use Rattle.ob_model.specs.Procedures.{Procedures, EndsReparse}
use Rattle.ob_model.specs.Refusals.{answers, gives}
use Rattle.ob_model.specs.Settle.{IsSettled, settle}
use Rattle.ob_model.specs.State.{State, is_live}
use Rattle.ob_model.specs.Types.{is_wanted_at}
use Rattle.ob_model.proofs.Settled.{settle-settle}
use Rattle.ob_model.specs.Sound.{IsSound}
use Rattle.ob_model.proofs.Soundness.{opened_sound}
use Rattle.ob_life.specs.Settling.{AreShadowsFit}
use Rattle.ob_model.proofs.Staying.{granted_settled}
use Rattle.ob_opens.specs.Again.{OpensAgain}
use Rattle.ob_opens.proofs.Endings.{is_done, is_refused, of_ticket}

module _ {K T F I : Type 0} (g : Procedures K T F I) (s : State K T F I) (ticket : ℕ) (x : PendingOpen K) (found : pending_of s ticket ≡ Some x) where
  -- the state in which the open is pending no longer
  abbrev w : State K T F I
  w = without_pending s ticket

  -- what is done where an open ends so
  Does : Look → Answer → State K T F I → PendingOpen K → Type 0
  Does look answer t y = (v : State K T F I) × Opens g w y.process y.attrs y.wanted look answer v × (t ≡ settle g v)

  module _ (answer : Answer) (t : State K T F I) where
    -- the open that ends is that of the ticket
    pub opens_again : (look : Look) (v : State K T F I) → Opens g w x.process x.attrs x.wanted look answer v → t ≡ settle g v → OpensAgain g s ticket look answer t
    unfolding Does
    opens_again look v opens settles = subst (λ (o : Option (PendingOpen K)). MatchOption o ⊥ (Does look answer t)) (sym found) (v, opens, settles)

    -- an open is resumed whose text was looked up again, where its process is live
    pub resumes_again : (text : List ℕ) (look : Look) → is_live s x.process ≡ true → LooksAgain g w x.process (open_mode x.wanted x.attrs) x.left text look → OpensAgain g s ticket look answer t
        → MatchOption (pending_of s ticket) ⊥ (λ y. Resumes g s y (Some (EndsReparse text)) answer t)
    unfolding Does
    resumes_again text look live looks opens =
        let does : Does look answer t x = subst (λ (o : Option (PendingOpen K)). MatchOption o ⊥ (Does look answer t)) found opens in
        of_ticket g s ticket x found answer t (Some (EndsReparse text)) does.0
        (is_done ((not (is_live s x.process), ProcessGone) ∷ []) w answer does.0 _ (ap (λ b. first_refusal ((not b, ProcessGone) ∷ [])) live) (look, looks, does.1)) does.2

    -- and where it is gone
    pub gone_again : (text : List ℕ) → is_live s x.process ≡ false → answer ≡ answers ProcessGone → t ≡ settle g w
        → MatchOption (pending_of s ticket) ⊥ (λ y. Resumes g s y (Some (EndsReparse text)) answer t)
    gone_again text gone told settles =
        of_ticket g s ticket x found answer t (Some (EndsReparse text)) w
        (is_refused ((not (is_live s x.process), ProcessGone) ∷ []) w answer w _ ProcessGone (ap (λ b. first_refusal ((not b, ProcessGone) ∷ [])) gone) (told, refl)) settles

    -- the lookup was refused
    pub refused_again : (status : Status) → answer ≡ answers status → t ≡ settle g w → OpensAgain g s ticket (Refused status) answer t
    refused_again status told settles = opens_again (Refused status) w (told, refl) settles

    module _ (object : ℕ) where
      at_object : (v : State K T F I) → OpensAt g w x.process x.attrs x.wanted Success object answer v → t ≡ settle g v → OpensAgain g s ticket (At object) answer t
      at_object v opens settles = opens_again (At object) v opens settles

      -- the object isn't of the type that was asked for
      pub found_other_type : is_wanted_at g s object x.wanted ≡ false → answer ≡ answers ObjectTypeMismatch → t ≡ settle g w → OpensAgain g s ticket (At object) answer t
      found_other_type other told settles =
          at_object w
          (is_refused ((not (is_wanted_at g s object x.wanted), ObjectTypeMismatch) ∷ []) w answer w _ ObjectTypeMismatch (ap (λ b. first_refusal ((not b, ObjectTypeMismatch) ∷ [])) other) (told, refl)) settles

      module _ (wanted : is_wanted_at g s object x.wanted ≡ true) (asked : GrantOptions) (asks : asked ≡ options_by x.attrs) (u : State K T F I) where
        found_handle : (v : State K T F I) → GivesHandle g w x.process object asked Opened Success answer v → t ≡ settle g v → OpensAgain g s ticket (At object) answer t
        found_handle v given settles =
            at_object v
            (is_done ((not (is_wanted_at g s object x.wanted), ObjectTypeMismatch) ∷ []) w answer v _ (ap (λ b. first_refusal ((not b, ObjectTypeMismatch) ∷ [])) wanted)
            (subst (λ (q : GrantOptions). GivesHandle g w x.process object q Opened Success answer v) asks given)) settles

        -- the grant is refused: a grant reads no pending opens
        pub found_refused : (status : Status) → Grants g s x.process object asked Opened (Err status) u → answer ≡ answers status → t ≡ settle g w → OpensAgain g s ticket (At object) answer t
        found_refused status refused told settles = found_handle w (Err status, w, (refused.0, refl), (told, refl)) settles

        -- a handle is granted, and then the open ends
        pub found_given : (value : ℕ) → Grants g s x.process object asked Opened (Ok value) u → answer ≡ gives Success (Handle value) → t ≡ settle g (without_pending u ticket) → OpensAgain g s ticket (At object) answer t
        found_given value granted told settles =
            let left : State K T F I = with_handle (with_open g w object Opened) x.process value object asked.inherit in
            let is : t ≡ settle g left = settles ∙ ap (λ (v : State K T F I). settle g (without_pending v ticket)) granted.2 in
            found_handle (settle g left) (Ok value, left, (granted.0, granted.1, refl), (told, refl)) (is ∙ sym (settle-settle g left))

-- what is there is some value
pub some_is : {X : Type 0} (o : Option X) → is_some o ≡ true → (x : X) × (o ≡ Some x)
some_is None h = cc
some_is (Some x) h = (x, refl)

-- the lookup was refused: of any open that is pending under the ticket
pub refused_there : {K T F I : Type 0} (g : Procedures K T F I) (s : State K T F I) (ticket : ℕ) (answer : Answer) (t : State K T F I) (status : Status) → is_some (pending_of s ticket) ≡ true
    → answer ≡ answers status → t ≡ settle g (without_pending s ticket) → OpensAgain g s ticket (Refused status) answer t
refused_there g s ticket answer t status there told settles = let at = some_is (pending_of s ticket) there in refused_again g s ticket at.0 at.1 answer t status told settles

-- the state once a handle was granted is settled
pub granted_is_settled : {K T F I : Type 0} (g : Procedures K T F I) (s u : State K T F I) (p o value : ℕ) (asked : GrantOptions) → IsSettled s → Grants g s p o asked Opened (Ok value) u → IsSettled u
granted_is_settled g s u p o value asked settled granted = subst IsSettled (sym granted.2) (granted_settled g s p value o Opened asked.inherit settled)

-- and the shadows of a sound one are fit then
pub granted_is_fit : {K T F I : Type 0} (g : Procedures K T F I) (s u : State K T F I) (p o value : ℕ) (asked : GrantOptions) → IsSound s → Grants g s p o asked Opened (Ok value) u → AreShadowsFit u
granted_is_fit g s u p o value asked sound granted =
    let there = opened_sound g s o Opened sound in
    subst AreShadowsFit (sym granted.2) (record { inside = there.rows.inside; shadows = there.objects.shadows })

-- an open that is found under its ticket asked for a live process
pub live_there : {K T F I : Type 0} (s : State K T F I) (ticket : ℕ) (x : PendingOpen K) → pending_of s ticket ≡ Some x → MatchOption (pending_of s ticket) ⊥ (λ y. is_live s y.process ≡ true) → is_live s x.process ≡ true
live_there s ticket x found live = subst (λ (o : Option (PendingOpen _)). MatchOption o ⊥ (λ y. is_live s y.process ≡ true)) found live
