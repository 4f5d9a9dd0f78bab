-- The set's value and the inner values after a create, an open, a duplicate and the end of a pending open.
use Rattle.std.proofs.Common.{◌≡◌, ◌≢◌, ◌∙◌, ℕ, ◌+◌, ◌==◌, Bool, true, false, not, ◌&&◌, ◌||◌, if◌then◌else◌, List, [], ◌∷◌, ◌++◌, All, Option, None, Some, is_some, option_map, refl, ap, sym, subst, arith}
use Rattle.std.specs.Option.{option_map_or}
use Rattle.ob_base.specs.declared.status.Status.{Status}
use Rattle.ob_base.specs.declared.status.Status.TheVariants.{ProcessGone}
use Rattle.ob_model.specs.declared.command.Place.{Place}
use Rattle.ob_model.specs.declared.reply.Answer.{Answer}
use Rattle.ob_model.specs.declared.reply.Answer.TheVariants.{Ticket}
use Rattle.ob_model.specs.declared.reply.Given.TheVariants.{Handle}
use Rattle.ob_model.specs.declared.state.Body.{Body}
use Rattle.ob_model.specs.declared.state.Body.TheVariants.{Other}
use Rattle.ob_model.specs.declared.state.Object.{Object}
use Rattle.ob_model.specs.declared.state.PendingOpen.{PendingOpen}
use Rattle.ob_model.specs.declared.state.Wanted.{Wanted}
use Rattle.ob_model.specs.declared.terms.Reason.{Reason}
use Rattle.ob_model.specs.declared.terms.Reason.TheVariants.{Opened as ForOpen, Created as ForCreate, Duplicated as ForDuplicate}
use Rattle.ob_model.specs.State.{State, object_of, is_live}
use Rattle.ob_model.specs.Procedures.{Procedures, ParseOutcome, EndsItself, EndsMade, EndsReparse, EndsRefused}
use Rattle.ob_model.specs.Settle.{settle}
use Rattle.ob_model.specs.declared.terms.GrantOptions.{GrantOptions}
use Rattle.ob_model.specs.Grants.{IsFreeValue, open_refusal, with_open, with_handle}
use Rattle.ob_model.specs.Refusals.{gives, answers, Unless}
use Rattle.ob_model.specs.PendingOpens.{with_pending}
use Rattle.ob_model.specs.Parses.{parsed_state, EndsOpen, Resumes, Abandons}
use Rattle.ob_model.specs.Creates.{Making, body_made, created, dropped}
use Rattle.ob_model.specs.Processes.{Duplicates}
use Rattle.ob_model.specs.Sound.{IsSound}
use Rattle.ob_model.specs.Step.{CreatesAt, OpensName}
use Rattle.ob_model.specs.Calls.{Call, Deleted, handle_given, is_set_body, is_of_set, open_reason, is_made, calls_of_grant, calls_of_end}
use Rattle.ob_model.proofs.InOrder.{free_from_other}
use Rattle.ob_model.proofs.PendingSound.{parsed_sound, HasTicket}
use Rattle.ob_model.proofs.Settled.{settle-settle}
use Rattle.ob_laws.specs.CallsMade.{inner_in, inside, made_by_parse}
use Rattle.ob_laws.proofs.SetCounts.{undrawn, ungranted}
use Rattle.ob_laws.proofs.GrantSteps.{unless_lands, creates_at_lands, duplicates_lands, opens_name_lands, ends_open_lands}
use Rattle.ob_laws.proofs.Follows.{Follows, follows_still, follows_told}
use Rattle.ob_laws.proofs.NewValues.{some_or, joined, joined-none, of_set-inner, inner-inserted}
use Rattle.ob_laws.proofs.RisingNumbers.{Rises, rises_parsed}
use Rattle.ob_laws.proofs.MovedSteps.{or_false, Moves, moves_made, moves_told, unmade_moves, still_moves, grant_moves, newly, dropped_moves, created_moves}

-- ---- a create

module _ {K T F I : Type 0} (g : Procedures K T F I) (s : State K T F I) (p : ℕ) (sound : IsSound s) (rises : Rises s) where
  -- what is there is opened for an open, and what is new for its create
  pub there_for_open : (o : ℕ) → is_of_set s o ≡ true → open_reason s o ≡ ForOpen
  there_for_open o e = go (object_of s o) e
    where
      go : (found : Option (Object F I)) → option_map_or is_set_body (option_map (λ x. x.body) found) false ≡ true → (if is_some found then ForOpen else ForCreate) ≡ ForOpen
      go None e = cc
      go (Some x) e = refl

  new_for_create : open_reason s s.next_id ≡ ForCreate
  new_for_create = ap (λ found. if is_some found then ForOpen else ForCreate) (undrawn s s.next_id sound (omega arith))

  module _ (made : State K T F I → ℕ → Option I) (IsMade : Body F I → Type 0)
      (none : (t : State K T F I) (o : ℕ) → t.next_id ≡ s.next_id → made t o ≡ None)
      (one : (t : State K T F I) (o : ℕ) (body : Body F I) → IsMade body → t.next_id ≡ s.next_id + 1 → made t o ≡ newly g s sound body o) where
    -- a step that answers so
    abbrev CreateMoves : Answer → State K T F I → Type 0
    CreateMoves answer t = Moves g s t (made t) (λ o. calls_of_grant (open_reason s o) t p (handle_given answer) o)

    -- it is refused, its new object is dropped, it opens what is there, or what it makes is there
    pub create_moves : (t : State K T F I) (where_to : Place) (attrs : ℕ) (shadow : Option ℕ) (making : Option ℕ → Making K) (answer : Answer)
        → ((d : Option ℕ) → IsMade (body_made g (making d))) → CreatesAt g s p where_to attrs shadow making answer t → CreateMoves answer t
    create_moves t where_to attrs shadow making answer is h =
        creates_at_lands g s p CreateMoves (λ reason. reason ≡ ForOpen) IsMade
        (λ status.
        moves_made g s s (λ o. None) (made s) (λ o. calls_of_grant (open_reason s o) s p None o) (λ o. sym (none s o refl))
        (moves_told g s s (λ o. None) (λ o. []) (λ o. calls_of_grant (open_reason s o) s p None o) (λ o. sym (ungranted (open_reason s o) s p o)) (still_moves g s)))
        (λ status body is.
        let u = dropped g s body in
        moves_made g s u (newly g s sound body) (made u) (λ o. calls_of_grant (open_reason s o) u p None o) (λ o. sym (one u o body is refl)) (dropped_moves g s sound body (open_reason s) p))
        (λ status value m asked reason fits free taken.
        let u = settle g (with_handle (with_open g s m reason) p value m asked.inherit) in
        moves_made g s u (λ o. None) (made u) (λ o. calls_of_grant (open_reason s o) u p (Some value) o) (λ o. sym (none u o refl))
        (grant_moves g s p value m asked reason (open_reason s) free taken rises (λ o of. there_for_open o of ∙ sym fits)))
        (λ spot body attrs value is free taken.
        let u = settle g (created g s p spot body attrs value) in
        moves_made g s u (newly g s sound body) (made u) (λ o. calls_of_grant (open_reason s o) u p (Some value) o) (λ o. sym (one u o body is refl))
        (created_moves g s sound body p spot attrs value (open_reason s) free taken rises new_for_create))
        t where_to attrs shadow making answer refl is h

  -- ---- an open, and a duplicate into this process

  module _ (why : ℕ → Reason) where
    -- a step that answers so, in which no object comes to be
    abbrev pub GrantMoves : Answer → State K T F I → Type 0
    GrantMoves answer t = Moves g s t (λ o. None) (λ o. calls_of_grant (why o) t p (handle_given answer) o)

    -- nothing is given
    ungiven_moves : (t : State K T F I) → Moves g s t (λ o. None) (λ o. []) → Moves g s t (λ o. None) (λ o. calls_of_grant (why o) t p None o)
    ungiven_moves t h = moves_told g s t (λ o. None) (λ o. []) (λ o. calls_of_grant (why o) t p None o) (λ o. sym (ungranted (why o) t p o)) h

    settled_ungiven : (u : State K T F I) → Rises u → inside u ≡ inside s → ((o : ℕ) → is_of_set s o ≡ is_of_set u o) → Moves g s (settle g u) (λ o. None) (λ o. calls_of_grant (why o) (settle g u) p None o)
    settled_ungiven u rise same of = ungiven_moves (settle g u) (unmade_moves g s u (λ o. []) rise of (follows_still g (inside s) (inside u) same))

    pub duplicate_moves : (t : State K T F I) (from handle : ℕ) (inherit : Bool) (answer : Answer) → ((o : ℕ) → why o ≡ ForDuplicate) → Duplicates g s from handle p inherit answer t → GrantMoves answer t
    duplicate_moves t from handle inherit answer fits h =
        duplicates_lands g s p GrantMoves (λ reason. reason ≡ ForDuplicate) (λ body. ⊥) (λ status. ungiven_moves s (still_moves g s)) (λ status body is. absurd is)
        (λ status value m asked reason is free taken. grant_moves g s p value m asked reason why free taken rises (λ o of. fits o ∙ sym is)) (λ spot body attrs value is free taken. absurd is) t from handle inherit answer refl h

    module _ (fits : (o : ℕ) → is_of_set s o ≡ true → why o ≡ ForOpen) where
      pub open_moves : (t : State K T F I) (root : Option ℕ) (name : List ℕ) (attrs : ℕ) (wanted : Wanted K) (answer : Answer) → OpensName g s p root name attrs wanted answer t → GrantMoves answer t
      open_moves t root name attrs wanted answer h =
          opens_name_lands g s p GrantMoves (λ reason. reason ≡ ForOpen) (λ body. ⊥) (λ status. ungiven_moves s (still_moves g s)) (λ status body is. absurd is)
          (λ status value m asked reason is free taken. grant_moves g s p value m asked reason why free taken rises (λ o of. fits o of ∙ sym is)) (λ spot body attrs value is free taken. absurd is)
          (λ attrs wanted m rest n. settled_ungiven (with_pending s p attrs wanted m rest n) rises refl (λ o. refl)) t root name attrs wanted answer refl h

      -- what a parse leads to, where it settles again
      pub judged_moves : (v : State K T F I) (refusals : List (Bool × Status)) (x : PendingOpen K) (outcome : Option (ParseOutcome F I)) (answer : Answer)
          → x.process ≡ p → Unless refusals s answer v (EndsOpen g s x outcome answer v) → GrantMoves answer (settle g v)
      judged_moves v refusals x outcome answer owner h =
          unless_lands g s p Settled (λ reason. reason ≡ ForOpen) (λ body. ⊥) refuses (λ status body is. absurd is) grants (λ spot body attrs value is free taken. absurd is) refusals v answer
          (EndsOpen g s x outcome answer v)
          (ends_open_lands g s p Settled (λ reason. reason ≡ ForOpen) (λ body. ⊥) refuses (λ status body is. absurd is) grants (λ spot body attrs value is free taken. absurd is) waits v x outcome answer refl owner) h
        where
          Settled : Answer → State K T F I → Type 0
          Settled answer u = GrantMoves answer (settle g u)

          refuses : (status : Status) → Settled (answers status) s
          refuses status = settled_ungiven s rises refl (λ o. refl)

          grants : (status : Status) (value m : ℕ) (asked : GrantOptions) (reason : Reason) → reason ≡ ForOpen → IsFreeValue s p value → open_refusal g s m reason ≡ None
              → Settled (gives status (Handle value)) (settle g (with_handle (with_open g s m reason) p value m asked.inherit))
          grants status value m asked reason is free taken =
              subst (GrantMoves (gives status (Handle value))) (sym (settle-settle g (with_handle (with_open g s m reason) p value m asked.inherit)))
              (grant_moves g s p value m asked reason why free taken rises (λ o of. fits o of ∙ sym is))

          waits : (attrs : ℕ) (wanted : Wanted K) (m : ℕ) (rest : List ℕ) (n : ℕ) → Settled (Ticket s.next_id) (settle g (with_pending s p attrs wanted m rest n))
          waits attrs wanted m rest n =
              subst (GrantMoves (Ticket s.next_id)) (sym (settle-settle g (with_pending s p attrs wanted m rest n))) (settled_ungiven (with_pending s p attrs wanted m rest n) rises refl (λ o. refl))

-- ---- the end of a pending open

module _ {K T F I : Type 0} (g : Procedures K T F I) (s : State K T F I) (ticket : ℕ) (outcome : Option (ParseOutcome F I)) (free : All (λ y. y.id ≢ ticket) s.objects) where
  -- the inner value of what the parse made
  abbrev pub parsed : ℕ → Option I
  parsed o = if o == ticket then made_by_parse outcome else None

  -- it comes to be in the state in which the end is judged
  inside_parsed : inside (parsed_state s ticket outcome) ≡ joined (inside s) parsed
  inside_parsed = go outcome
    where
      none : (o : ℕ) → ◌≡◌ {A = Option I} (if o == ticket then None else None) None
      none o = elim (o == ticket) as (λ b. ◌≡◌ {A = Option I} (if b then None else None) None) [ true ↦ refl | false ↦ refl ]

      go : (brought : Option (ParseOutcome F I)) → inside (parsed_state s ticket brought) ≡ joined (inside s) (λ o. if o == ticket then made_by_parse brought else None)
      go None = sym (joined-none (inside s) (λ o. if o == ticket then None else None) none)
      go (Some EndsItself) = sym (joined-none (inside s) (λ o. if o == ticket then None else None) none)
      go (Some (EndsMade face inner)) = λ i. record {
        set = s.set;
        inner = λ o.
            let x : Object F I = record { id = ticket; body = Other face inner; permanent = false; exclusive = false } in
            inner-inserted s x o (free_from_other (λ y. y.id) x s.objects free) i;
      }
      go (Some (EndsReparse text)) = sym (joined-none (inside s) (λ o. if o == ticket then None else None) none)
      go (Some (EndsRefused k)) = sym (joined-none (inside s) (λ o. if o == ticket then None else None) none)

  -- a step from the state in which the end is judged is one from the state before, in which that value comes to be
  pub parsed_moves : (t : State K T F I) (moves : ℕ → List Call) → Moves g (parsed_state s ticket outcome) t (λ o. None) moves → Moves g s t parsed moves
  parsed_moves t moves h =
      subst (λ v. Follows g v (inside t) (λ o. moves o ++ calls_of_end s t (is_some (parsed o)) o)) (joined-none (inside u) (λ o. None) (λ o. refl) ∙ inside_parsed)
      (follows_told g (joined (inside u) (λ o. None)) (inside t) (λ o. moves o ++ calls_of_end u t false o) (λ o. moves o ++ calls_of_end s t (is_some (parsed o)) o)
      (λ o i. moves o ++ (if of o i && not (is_some (object_of t o)) then Deleted ∷ [] else [])) h)
    where
      u : State K T F I
      u = parsed_state s ticket outcome

      of : (o : ℕ) → (is_of_set u o || false) ≡ (is_of_set s o || is_some (parsed o))
      of o =
          or_false (is_of_set u o) ∙ of_set-inner u o ∙ ap (λ v. is_some (v.inner o)) inside_parsed ∙ some_or (inner_in s o) (parsed o)
          ∙ ap (λ b. b || is_some (parsed o)) (sym (of_set-inner s o))

  -- it comes to be where the parse made an instance
  pub parsed_came : (o : ℕ) → is_some (parsed o) ≡ (is_made outcome && (o == ticket))
  parsed_came o = go (o == ticket) outcome
    where
      go : (b : Bool) (brought : Option (ParseOutcome F I)) → is_some (if b then made_by_parse brought else None) ≡ (is_made brought && b)
      go true None = refl
      go true (Some EndsItself) = refl
      go true (Some (EndsMade face inner)) = refl
      go true (Some (EndsReparse text)) = refl
      go true (Some (EndsRefused k)) = refl
      go false None = refl
      go false (Some EndsItself) = refl
      go false (Some (EndsMade face inner)) = refl
      go false (Some (EndsReparse text)) = refl
      go false (Some (EndsRefused k)) = refl

module _ {K T F I : Type 0} (g : Procedures K T F I) (s t : State K T F I) (x : PendingOpen K) (outcome : Option (ParseOutcome F I)) (answer : Answer)
    (sound : IsSound s) (rises : Rises s) (has : HasTicket s x) where
  -- a pending open is resumed, or given up
  pub resume_moves : Resumes g s x outcome answer t → Moves g s t (parsed g s x.ticket outcome has.0) (λ o. calls_of_grant ForOpen t x.process (handle_given answer) o)
  resume_moves h =
      let u = parsed_state s x.ticket outcome in
      parsed_moves g s x.ticket outcome has.0 t (λ o. calls_of_grant ForOpen t x.process (handle_given answer) o)
      (subst (λ v. Moves g u v (λ o. None) (λ o. calls_of_grant ForOpen v x.process (handle_given answer) o)) (sym h.2)
      (judged_moves g u x.process (parsed_sound s x.ticket outcome has.0 has.1 sound) (rises_parsed s x.ticket outcome has.0 rises) (λ o. ForOpen) (λ o of. refl) h.0
      ((not (is_live s x.process), ProcessGone) ∷ []) x outcome answer refl h.1))

  pub abandon_moves : Abandons g s x outcome answer t → Moves g s t (parsed g s x.ticket outcome has.0) (λ o. [])
  abandon_moves h =
      let u = parsed_state s x.ticket outcome in
      parsed_moves g s x.ticket outcome has.0 t (λ o. [])
      (subst (λ v. Moves g u v (λ o. None) (λ o. [])) (sym h.1) (unmade_moves g u u (λ o. []) (rises_parsed s x.ticket outcome has.0 rises) (λ o. refl) (follows_still g (inside u) (inside u) refl)))
