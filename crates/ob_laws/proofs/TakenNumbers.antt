-- A number that was drawn, and is no ticket, stays so in each step, and no object comes under it again.
use Rattle.std.proofs.Common.{◌≡◌, ◌≢◌, ◌∙◌, ℕ, ◌+◌, ◌<◌, ◌==◌, Bool, true, false, cond, not, List, [], ◌∷◌, get_or, find, filter, All, Option, None, Some, option_map, refl, ap, sym, subst, arith, eq-eqb}
use Rattle.std.specs.Option.{option_map_or}
use Rattle.std.proofs.lemmas.Bool.{false≢true, ne_eqb}
use Rattle.std.proofs.lemmas.List.Elements.{All-push, All-filter, filter_passes}
use Rattle.ob_base.specs.declared.status.Status.TheVariants.{ProcessGone}
use Rattle.ob_model.specs.declared.command.Command.{Command}
use Rattle.ob_model.specs.declared.reply.Answer.{Answer}
use Rattle.ob_model.specs.declared.reply.Event.TheVariants.{Start}
use Rattle.ob_model.specs.declared.state.Body.{Body}
use Rattle.ob_model.specs.declared.state.Held.{Held}
use Rattle.ob_model.specs.declared.state.PendingOpen.{PendingOpen}
use Rattle.ob_model.specs.declared.state.Wanted.{Wanted}
use Rattle.ob_model.specs.State.{State, is_live, object_of}
use Rattle.ob_model.specs.declared.terms.Reason.{Reason}
use Rattle.ob_model.specs.declared.terms.Reason.TheVariants.{Inherited}
use Rattle.ob_model.specs.Procedures.{Procedures, ParseOutcome, EndsItself, EndsMade, EndsReparse, EndsRefused}
use Rattle.ob_model.specs.Settle.{is_alive, settle}
use Rattle.ob_model.specs.Grants.{open_refusal, opened_object, with_open, with_handle}
use Rattle.ob_model.specs.Closing.{closed_object, closed_handle}
use Rattle.ob_model.specs.Permanence.{turned_object, turned}
use Rattle.ob_model.specs.Maps.{with_map}
use Rattle.ob_model.specs.Creates.{Spot, created, dropped}
use Rattle.ob_model.specs.Processes.{handles_in, inherited_from, with_child, inherits_one, inherits, begun, closed_in_turn, ended}
use Rattle.ob_model.specs.PendingOpens.{with_pending}
use Rattle.ob_model.specs.Parses.{parsed_state, Resumes, Abandons}
use Rattle.ob_model.specs.Step.{Step}
use Rattle.ob_model.proofs.Finds.{find_none, not_found}
use Rattle.ob_model.proofs.InOrder.{in_order-others}
use Rattle.ob_model.proofs.Leads.{Came, started, judged, came_leads}
use Rattle.ob_model.proofs.Soundness.{find_id-map, opened_object-id, opened_object-is_directory, closed_object-id, closed_object-is_directory}
use Rattle.ob_model.proofs.Turned.{turned_object-id, turned_object-is_directory, turned_either}
use Rattle.ob_laws.proofs.LifeOf.{IsTaken, IsGone}

-- what isn't found is found in no part
still_unfound : {X : Type 0} (test keeps : X → Bool) (xs : List X) → find test xs ≡ None → find test (filter keeps xs) ≡ None
still_unfound test keeps xs none = find_none test (filter keeps xs) (All-filter keeps (λ x. test x ≡ false) xs (not_found test xs none))

-- what is found passes
pub found_is : {X : Type 0} (test : X → Bool) (xs : List X) (x : X) → find test xs ≡ Some x → test x ≡ true
found_is test [] x e = cc
found_is {X} test (y ∷ ys) x e = go (test y) refl e (found_is test ys x)
  where
    go : (b : Bool) → test y ≡ b → cond b (Some y) (find test ys) ≡ Some x → (find test ys ≡ Some x → test x ≡ true) → test x ≡ true
    go true is e rest = let same : y ≡ x = cc in ap test (sym same) ∙ is
    go false is e rest = rest e

-- what isn't kept away by a test of its ticket has another ticket
pub other_tickets : {K : Type 0} (ticket : ℕ) (xs : List (PendingOpen K)) → All (λ x. x.ticket ≢ ticket) (filter (λ x. not (x.ticket == ticket)) xs)
other_tickets ticket xs k d within = λ same.
    let passes : not ((get_or (filter (λ x. not (x.ticket == ticket)) xs) k d).ticket == ticket) ≡ true = filter_passes (λ x. not (x.ticket == ticket)) xs k d within in
    let is : ((get_or (filter (λ x. not (x.ticket == ticket)) xs) k d).ticket == ticket) ≡ true = eq-eqb _ ticket same in
    absurd (false≢true ((λ i. not (sym is i)) ∙ passes))

module _ {K T F I : Type 0} where
  -- from the state s to t a taken number stays taken, and vacant
  pub record GoesOn (o : ℕ) (s t : State K T F I) : Type 0 where
    pub taken : IsTaken s o → IsTaken t o
    pub vacant : IsTaken s o → object_of s o ≡ None → object_of t o ≡ None

  pub goes_on_gone : (o : ℕ) (s t : State K T F I) → GoesOn o s t → IsGone s o → IsGone t o
  goes_on_gone o s t on gone = record { absent = on.vacant gone.taken gone.absent; taken = on.taken gone.taken }

  pub goes_further : (o : ℕ) (s t u : State K T F I) → GoesOn o s t → GoesOn o t u → GoesOn o s u
  goes_further o s t u one other = record {
    taken = λ h. other.taken (one.taken h);
    vacant = λ h e. other.vacant (one.taken h) (one.vacant h e);
  }

  -- where numbers and tickets stay, and no object comes
  same_numbers : (o : ℕ) (s t : State K T F I) → t.next_id ≡ s.next_id → t.pending ≡ s.pending → (object_of s o ≡ None → object_of t o ≡ None) → GoesOn o s t
  same_numbers o s t numbers tickets none = record {
    taken = λ h. record { drawn = subst (λ n. o < n) (sym numbers) h.drawn; unawaited = subst (All (λ x. x.ticket ≢ o)) (sym tickets) h.unawaited };
    vacant = λ h e. none e;
  }

module _ {K T F I : Type 0} (g : Procedures K T F I) (o : ℕ) where
  settled_on : (s : State K T F I) → GoesOn o s (settle g s)
  settled_on s = same_numbers o s (settle g s) refl refl (still_unfound (λ x. x.id == o) (λ x. is_alive s x.id) s.objects)

  opened_on : (s : State K T F I) (m : ℕ) (reason : Reason) (p value : ℕ) (inherit : Bool) → GoesOn o s (with_handle (with_open g s m reason) p value m inherit)
  opened_on s m reason p value inherit =
      same_numbers o s (with_handle (with_open g s m reason) p value m inherit) refl refl
      (λ e.
      find_id-map (opened_object g s.set m reason) (opened_object-id g s.set m reason) (opened_object-is_directory g s.set m reason) o s.objects
      ∙ ap (option_map (opened_object g s.set m reason)) e)

  closed_on : (s : State K T F I) (h : Held) → GoesOn o s (closed_handle g s h)
  closed_on s h =
      same_numbers o s (closed_handle g s h) refl refl
      (λ e.
      find_id-map (closed_object g s.set h.object _ _) (closed_object-id g s.set h.object _ _) (closed_object-is_directory g s.set h.object _ _) o s.objects
      ∙ ap (option_map (closed_object g s.set h.object _ _)) e)

  turned_on : (s : State K T F I) (m : ℕ) (permanent : Bool) → GoesOn o s (turned s m permanent)
  turned_on s m permanent =
      turned_either (GoesOn o s) s m permanent (same_numbers o s s refl refl (λ e. e))
      (same_numbers o s _ refl refl
      (λ e. find_id-map (turned_object m permanent) (turned_object-id m permanent) (turned_object-is_directory m permanent) o s.objects ∙ ap (option_map (turned_object m permanent)) e))

  inherits_on : (s : State K T F I) (child : ℕ) (hs : List Held) → GoesOn o s (inherits g s child hs)
  inherits_on s child [] = same_numbers o s s refl refl (λ e. e)
  inherits_on s child (h ∷ hs) =
      goes_further o s (inherits_one g s child h) (inherits g (inherits_one g s child h) child hs) (go (open_refusal g s h.object Inherited)) (inherits_on (inherits_one g s child h) child hs)
    where
      go : (r : Option ℕ) → GoesOn o s (option_map_or (λ _. record s { next_order = s.next_order + 1 }) r (with_handle (with_open g s h.object Inherited) child h.value h.object true))
      go None = opened_on s h.object Inherited child h.value true
      go (Some k) = same_numbers o s (record s { next_order = s.next_order + 1 }) refl refl (λ e. e)

  closed_all_on : (s : State K T F I) (hs : List Held) → GoesOn o s (closed_in_turn g s hs)
  closed_all_on s [] = same_numbers o s s refl refl (λ e. e)
  closed_all_on s (h ∷ hs) =
      goes_further o s (closed_handle g s h) (closed_in_turn g (closed_handle g s h) hs) (closed_on s h) (closed_all_on (closed_handle g s h) hs)

  -- a number that is drawn for an object, or for a ticket, is another one
  created_on : (s : State K T F I) (p : ℕ) (spot : Spot) (body : Body F I) (attrs value : ℕ) → GoesOn o s (created g s p spot body attrs value)
  created_on s p spot body attrs value = record {
    taken = λ h. record { drawn = let less : o < s.next_id = h.drawn in omega (arith, less); unawaited = h.unawaited };
    vacant = λ h e.
        in_order-others (λ x. x.id) (λ x. x.id == o) _ s.objects (let less : o < s.next_id = h.drawn in ne_eqb s.next_id o (λ same. omega (arith, less, same))) ∙ e;
  }

  dropped_on : (s : State K T F I) (body : Body F I) → GoesOn o s (dropped g s body)
  dropped_on s body = record {
    taken = λ h. record { drawn = let less : o < s.next_id = h.drawn in omega (arith, less); unawaited = h.unawaited };
    vacant = λ h e. e;
  }

  waiting_on : (s : State K T F I) (p attrs : ℕ) (wanted : Wanted K) (m : ℕ) (rest : List ℕ) (n : ℕ) → GoesOn o s (with_pending s p attrs wanted m rest n)
  waiting_on s p attrs wanted m rest n = record {
    taken = λ h. let less : o < s.next_id = h.drawn in record {
      drawn = omega (arith, less);
      unawaited = All-push (λ x. x.ticket ≢ o) s.pending _ h.unawaited (λ same. omega (arith, less, same));
    };
    vacant = λ h e. e;
  }

  -- a start, and what a parse leads to
  came_on : (s t : State K T F I) → Came g s t → GoesOn o s t
  came_on s t came =
      came_leads g s (GoesOn o s) (same_numbers o s s refl refl (λ e. e)) (dropped_on s)
      (λ p value m asked reason e. then_settled (with_handle (with_open g s m reason) p value m asked.inherit) (opened_on s m reason p value asked.inherit))
      (λ p spot body attrs value lawful. then_settled (created g s p spot body attrs value) (created_on s p spot body attrs value))
      (λ h. then_settled (closed_handle g s h) (closed_on s h))
      (λ m permanent. then_settled (turned s m permanent) (turned_on s m permanent))
      (λ p d. then_settled (with_map s p d) (same_numbers o s (with_map s p d) refl refl (λ e. e)))
      (λ p inherit. then_settled (begun g s p inherit)
      (goes_further o s (with_child s p) (begun g s p inherit) (same_numbers o s (with_child s p) refl refl (λ e. e)) (inherits_on (with_child s p) s.next_process (inherited_from s p inherit))))
      (λ p. then_settled (ended g s p)
      (goes_further o s (closed_in_turn g s (handles_in s p)) (ended g s p) (closed_all_on s (handles_in s p)) (same_numbers o (closed_in_turn g s (handles_in s p)) (ended g s p) refl refl (λ e. e))))
      (λ p attrs wanted m rest n. then_settled (with_pending s p attrs wanted m rest n) (waiting_on s p attrs wanted m rest n)) t came
    where
      then_settled : (u : State K T F I) → GoesOn o s u → GoesOn o s (settle g u)
      then_settled u on = goes_further o s u (settle g u) on (settled_on u)

  -- the state in which the end of a pending open is judged
  pub parsed_on : (s : State K T F I) (ticket : ℕ) (outcome : Option (ParseOutcome F I)) → (IsTaken s o → ticket ≢ o) → GoesOn o s (parsed_state s ticket outcome)
  parsed_on s ticket outcome other = record { taken = taken outcome; vacant = vacant outcome }
    where
      fewer : IsTaken s o → All (λ x. x.ticket ≢ o) (filter (λ x. not (x.ticket == ticket)) s.pending)
      fewer h = All-filter (λ x. not (x.ticket == ticket)) (λ x. x.ticket ≢ o) s.pending h.unawaited

      taken : (outcome : Option (ParseOutcome F I)) → IsTaken s o → IsTaken (parsed_state s ticket outcome) o
      taken None h = record { drawn = h.drawn; unawaited = fewer h }
      taken (Some EndsItself) h = record { drawn = h.drawn; unawaited = fewer h }
      taken (Some (EndsMade face inner)) h = record { drawn = h.drawn; unawaited = fewer h }
      taken (Some (EndsReparse text)) h = record { drawn = h.drawn; unawaited = fewer h }
      taken (Some (EndsRefused k)) h = record { drawn = h.drawn; unawaited = fewer h }

      vacant : (outcome : Option (ParseOutcome F I)) → IsTaken s o → object_of s o ≡ None → object_of (parsed_state s ticket outcome) o ≡ None
      vacant None h e = e
      vacant (Some EndsItself) h e = e
      vacant (Some (EndsMade face inner)) h e = in_order-others (λ x. x.id) (λ x. x.id == o) _ s.objects (ne_eqb ticket o (other h)) ∙ e
      vacant (Some (EndsReparse text)) h e = e
      vacant (Some (EndsRefused k)) h e = e

  pub resumed_on : (s t : State K T F I) (x : PendingOpen K) (outcome : Option (ParseOutcome F I)) (answer : Answer) → Resumes g s x outcome answer t → GoesOn o (parsed_state s x.ticket outcome) t
  resumed_on s t x outcome answer h =
      let u = parsed_state s x.ticket outcome in
      goes_further o u h.0 t (came_on u h.0 (judged ((not (is_live s x.process), ProcessGone) ∷ []) x outcome answer h.1)) (subst (GoesOn o h.0) (sym h.2) (settled_on h.0))

  pub abandoned_on : (s t : State K T F I) (x : PendingOpen K) (outcome : Option (ParseOutcome F I)) (answer : Answer) → Abandons g s x outcome answer t → GoesOn o (parsed_state s x.ticket outcome) t
  abandoned_on s t x outcome answer h = subst (GoesOn o (parsed_state s x.ticket outcome)) (sym h.1) (settled_on (parsed_state s x.ticket outcome))

  pub started_on : (s t : State K T F I) (p : ℕ) (command : Command K) (answer : Answer) → Step g s (Start p command) answer t → GoesOn o s t
  started_on s t p command answer h = came_on s t (started p command answer h)

  -- the ticket of an open that is pending no longer is taken
  pub ticket_is_taken : (s : State K T F I) (outcome : Option (ParseOutcome F I)) → o < s.next_id → IsTaken (parsed_state s o outcome) o
  ticket_is_taken s None drawn = record { drawn = drawn; unawaited = other_tickets o s.pending }
  ticket_is_taken s (Some EndsItself) drawn = record { drawn = drawn; unawaited = other_tickets o s.pending }
  ticket_is_taken s (Some (EndsMade face inner)) drawn = record { drawn = drawn; unawaited = other_tickets o s.pending }
  ticket_is_taken s (Some (EndsReparse text)) drawn = record { drawn = drawn; unawaited = other_tickets o s.pending }
  ticket_is_taken s (Some (EndsRefused k)) drawn = record { drawn = drawn; unawaited = other_tickets o s.pending }
