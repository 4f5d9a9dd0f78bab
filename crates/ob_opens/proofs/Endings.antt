-- A pending open whose parse has ended is resumed: each of its endings, told of the machine's states.
use Rattle.std.proofs.Common.{◌≡◌, ◌∙◌, ℕ, ◌<◌, ◌==◌, ◌||◌, not, Bool, true, false, List, [], ◌∷◌, ap, refl, sym, subst, eq-eqb, eqb-true}
use Rattle.std.specs.List.{AllPairs}
use Rattle.std.specs.Prelude.{Option, None, Some, MatchOption, Ok, Err}
use Rattle.std.proofs.lemmas.List.Folds.{list_any-append}
use Rattle.ob_base.specs.declared.status.Status.{Status}
use Rattle.ob_base.specs.declared.status.Status.TheVariants.{Success, ProcessGone, ObjectTypeMismatch}
use Rattle.ob_model.specs.declared.reply.Answer.{Answer}
use Rattle.ob_model.specs.declared.reply.Given.TheVariants.{Handle}
use Rattle.ob_model.specs.declared.state.Held.{Held}
use Rattle.ob_model.specs.declared.state.PendingOpen.{PendingOpen}
use Rattle.ob_model.specs.declared.terms.GrantOptions.{GrantOptions}
use Rattle.ob_model.specs.Grants.{Grants, first_refusal, with_open, with_handle}
use Rattle.ob_model.specs.Opens.{options_by, GivesHandle, OpensAt}
use Rattle.ob_model.specs.Parses.{Resumes, EndsOpen, parsed_state}
use Rattle.ob_model.specs.PendingOpens.{pending_of, without_pending}
use Rattle.ob_model.specs.declared.terms.Reason.TheVariants.{Opened}
use Rattle.ob_model.specs.Procedures.{Procedures, ParseOutcome, EndsItself}
use Rattle.ob_model.specs.Refusals.{IsRefused, Unless, answers, gives}
use Rattle.ob_model.specs.Settle.{IsSettled, settle, has_handle}
use Rattle.ob_model.specs.State.{State, is_live}
use Rattle.ob_model.specs.Types.{is_wanted_at}
use Rattle.ob_model.proofs.Staying.{granted_settled, settled_itself}
use Rattle.ob_space.proofs.Handles.{found_passes}
use Rattle.ob_opens.proofs.Ended.{unpinned_settled}

or_right : (a b : Bool) → b ≡ true → (a || b) ≡ true
or_right true b e = refl
or_right false b e = e

-- a step of which no refusal holds does what it does
pub is_done : {K T F I : Type 0} (refusals : List (Bool × Status)) (s : State K T F I) (answer : Answer) (t : State K T F I) (Does : Type 0) → first_refusal refusals ≡ None → Does
    → Unless refusals s answer t Does
is_done refusals s answer t Does e done = subst (λ (o : Option Status). MatchOption o Does (λ told. IsRefused s told answer t)) (sym e) done

-- a step of which a refusal holds is refused
pub is_refused : {K T F I : Type 0} (refusals : List (Bool × Status)) (s : State K T F I) (answer : Answer) (t : State K T F I) (Does : Type 0) (status : Status) → first_refusal refusals ≡ Some status
    → IsRefused s status answer t → Unless refusals s answer t Does
is_refused refusals s answer t Does status e refused = subst (λ (o : Option Status). MatchOption o Does (λ told. IsRefused s told answer t)) (sym e) refused

module _ {K T F I : Type 0} (g : Procedures K T F I) (s : State K T F I) (ticket : ℕ) (x : PendingOpen K) (found : pending_of s ticket ≡ Some x) where
  -- the state in which the open is pending no longer
  abbrev w : State K T F I
  w = without_pending s ticket

  pub its_ticket : x.ticket ≡ ticket
  its_ticket = eqb-true x.ticket ticket (found_passes (λ y. y.ticket == ticket) s.pending x found)

  module _ (answer : Answer) (t : State K T F I) where
    -- what is resumed is the open of the ticket
    pub of_ticket : (outcome : Option (ParseOutcome F I)) (v : State K T F I)
        → Unless ((not (is_live s x.process), ProcessGone) ∷ []) (parsed_state s ticket outcome) answer v (EndsOpen g (parsed_state s ticket outcome) x outcome answer v)
        → t ≡ settle g v → MatchOption (pending_of s ticket) ⊥ (λ y. Resumes g s y outcome answer t)
    of_ticket outcome v unless settles =
        subst (λ (o : Option (PendingOpen K)). MatchOption o ⊥ (λ y. Resumes g s y outcome answer t)) (sym found)
        (v, subst (λ n. Unless ((not (is_live s x.process), ProcessGone) ∷ []) (parsed_state s n outcome) answer v (EndsOpen g (parsed_state s n outcome) x outcome answer v)) (sym its_ticket) unless, settles)

    -- the process that asked is gone
    pub asker_gone : is_live s x.process ≡ false → answer ≡ answers ProcessGone → t ≡ settle g w → MatchOption (pending_of s ticket) ⊥ (λ y. Resumes g s y (Some EndsItself) answer t)
    asker_gone gone told settles =
        of_ticket (Some EndsItself) w
        (is_refused ((not (is_live s x.process), ProcessGone) ∷ []) w answer w _ ProcessGone (ap (λ b. first_refusal ((not b, ProcessGone) ∷ [])) gone) (told, refl)) settles

    module _ (live : is_live s x.process ≡ true) where
      itself : (v : State K T F I) → OpensAt g w x.process x.attrs x.wanted Success x.object answer v → t ≡ settle g v → MatchOption (pending_of s ticket) ⊥ (λ y. Resumes g s y (Some EndsItself) answer t)
      itself v opens settles =
          of_ticket (Some EndsItself) v
          (is_done ((not (is_live s x.process), ProcessGone) ∷ []) w answer v _ (ap (λ b. first_refusal ((not b, ProcessGone) ∷ [])) live) opens) settles

      -- the object isn't of the type that was asked for
      pub other_type : is_wanted_at g s x.object x.wanted ≡ false → answer ≡ answers ObjectTypeMismatch → t ≡ settle g w
          → MatchOption (pending_of s ticket) ⊥ (λ y. Resumes g s y (Some EndsItself) answer t)
      other_type other told settles =
          itself w
          (is_refused ((not (is_wanted_at g s x.object x.wanted), ObjectTypeMismatch) ∷ []) w answer w _ ObjectTypeMismatch (ap (λ b. first_refusal ((not b, ObjectTypeMismatch) ∷ [])) other) (told, refl)) settles

      module _ (wanted : is_wanted_at g s x.object x.wanted ≡ true) (asked : GrantOptions) (asks : asked ≡ options_by x.attrs) (u : State K T F I) where
        gives_handle : (v : State K T F I) → GivesHandle g w x.process x.object asked Opened Success answer v → t ≡ settle g v → MatchOption (pending_of s ticket) ⊥ (λ y. Resumes g s y (Some EndsItself) answer t)
        gives_handle v given settles =
            itself v
            (is_done ((not (is_wanted_at g s x.object x.wanted), ObjectTypeMismatch) ∷ []) w answer v _ (ap (λ b. first_refusal ((not b, ObjectTypeMismatch) ∷ [])) wanted)
            (subst (λ (q : GrantOptions). GivesHandle g w x.process x.object q Opened Success answer v) asks given)) settles

        -- the grant is refused: a grant reads no pending opens
        pub grant_refused : (status : Status) → Grants g s x.process x.object asked Opened (Err status) u → answer ≡ answers status → t ≡ settle g w
            → MatchOption (pending_of s ticket) ⊥ (λ y. Resumes g s y (Some EndsItself) answer t)
        grant_refused status refused told settles = gives_handle w (Err status, w, (refused.0, refl), (told, refl)) settles

        -- a handle is granted: nothing goes, since the object that the open pinned has a handle now
        module _ (value : ℕ) (granted : Grants g s x.process x.object asked Opened (Ok value) u) (rising : AllPairs (λ a b. a.ticket < b.ticket) s.pending) (settled : IsSettled s) where
          with_one : State K T F I
          with_one = with_handle (with_open g s x.object Opened) x.process value x.object asked.inherit

          left : State K T F I
          left = with_handle (with_open g w x.object Opened) x.process value x.object asked.inherit

          has_one : has_handle with_one x.object ≡ true
          unfolding with_one
          has_one = list_any-append (λ (h : Held). h.object == x.object) s.handles _ ∙ or_right (has_handle s x.object) _ (ap (λ b. b || false) (eq-eqb x.object x.object refl))

          left_settled : IsSettled left
          unfolding with_one left
          left_settled = unpinned_settled with_one ticket x rising found (granted_settled g s x.process value x.object Opened asked.inherit settled) has_one

          pub grant_given : answer ≡ gives Success (Handle value) → t ≡ without_pending u ticket → MatchOption (pending_of s ticket) ⊥ (λ y. Resumes g s y (Some EndsItself) answer t)
          unfolding left
          grant_given told takes =
              let stays : left ≡ settle g left = sym (settled_itself g left left_settled) in
              let is : t ≡ left = takes ∙ ap (λ (v : State K T F I). without_pending v ticket) granted.2 in
              gives_handle left (Ok value, left, (granted.0, granted.1, refl), (told, stays)) (is ∙ stays)
