-- In every state of a run the objects stand by rising numbers, so no two have one number.
use Rattle.std.proofs.Common.{◌≡◌, ℕ, ◌+◌, ◌<◌, ◌==◌, ◌≢◌, Bool, true, false, ◌&&◌, not, List, [], ◌∷◌, map, All, Option, None, Some, is_some, MatchOption, refl, sym, subst}
use Rattle.std.specs.Option.{option_map_or}
use Rattle.std.proofs.lemmas.List.Elements.{All-nil, All-cons, All-head, All-tail}
use Rattle.ob_base.specs.Attrs.{has_flag, permanent_flag, exclusive_flag}
use Rattle.ob_base.specs.declared.status.Status.TheVariants.{ProcessGone}
use Rattle.ob_model.specs.declared.reply.Answer.{Answer}
use Rattle.ob_model.specs.declared.reply.Event.{Event}
use Rattle.ob_model.specs.declared.reply.Event.TheVariants.{Start, Resume, Abandon}
use Rattle.ob_model.specs.declared.state.Body.{Body}
use Rattle.ob_model.specs.declared.state.Body.TheVariants.{Other}
use Rattle.ob_model.specs.declared.state.Held.{Held}
use Rattle.ob_model.specs.declared.state.Object.{Object}
use Rattle.ob_model.specs.declared.state.PendingOpen.{PendingOpen}
use Rattle.ob_model.specs.State.{State, is_live, insert_object}
use Rattle.ob_model.specs.declared.terms.Reason.{Reason}
use Rattle.ob_model.specs.declared.terms.Reason.TheVariants.{Created, Inherited}
use Rattle.ob_model.specs.Procedures.{Procedures, ParseOutcome, EndsItself, EndsMade, EndsReparse, EndsRefused}
use Rattle.ob_model.specs.Settle.{is_alive, settle}
use Rattle.ob_model.specs.Grants.{open_refusal, opened_body, opened_object, with_open, with_handle}
use Rattle.ob_model.specs.Closing.{closed_object, closed_handle}
use Rattle.ob_model.specs.Permanence.{turned_object, turned}
use Rattle.ob_model.specs.Maps.{with_map}
use Rattle.ob_model.specs.Creates.{Spot, created}
use Rattle.ob_model.specs.Processes.{handles_in, inherited_from, with_child, inherits_one, inherits, begun, closed_in_turn, ended}
use Rattle.ob_model.specs.PendingOpens.{pending_of, with_pending}
use Rattle.ob_model.specs.Parses.{parsed_state, Resumes, Abandons}
use Rattle.ob_model.specs.Sound.{IsSound}
use Rattle.ob_model.specs.Step.{Step}
use Rattle.ob_model.proofs.InOrder.{IsFree, newest_is_free, free_from_other, in_order-map, in_order-rising}
use Rattle.ob_model.proofs.Leads.{Came, started, judged, came_leads}
use Rattle.ob_model.proofs.PendingSound.{parsed_sound, HasTicket, has_ticket}
use Rattle.ob_model.proofs.Soundness.{opened_object-id, closed_object-id}
use Rattle.ob_model.proofs.Turned.{turned_object-id, turned_either}
use Rattle.ob_laws.proofs.DeletedObjects.{Rise, numbers, rise-filter}

-- a change that leaves the numbers
numbers-map : {F I : Type 0} (f : Object F I → Object F I) → ((x : Object F I) → (f x).id ≡ x.id) → (xs : List (Object F I)) → numbers (map f xs) ≡ numbers xs
numbers-map f same [] = refl
numbers-map f same (x ∷ xs) = λ i. same x i ∷ numbers-map f same xs i

free_number : {F I : Type 0} (x : Object F I) (xs : List (Object F I)) → IsFree (λ y. y.id) x xs → IsFree (λ n. n) x.id (numbers xs)
free_number x [] free = All-nil (λ n. (n == x.id) ≡ false)
free_number x (y ∷ ys) free =
    All-cons (λ n. (n == x.id) ≡ false) y.id (numbers ys) (All-head (λ z. (z.id == x.id) ≡ false) y ys free) (free_number x ys (All-tail (λ z. (z.id == x.id) ≡ false) y ys free))

-- an object more, of a number that none has
pub rise-inserted : {F I : Type 0} (x : Object F I) (xs : List (Object F I)) → IsFree (λ y. y.id) x xs → Rise (numbers xs) → Rise (numbers (insert_object x xs))
rise-inserted x xs free rise =
    subst Rise (sym (in_order-map (λ y. y.id) (λ n. n) (λ y. y.id) (λ y. refl) x xs)) (in_order-rising (λ n. n) x.id (numbers xs) (free_number x xs free) rise)

module _ {K T F I : Type 0} where
  -- numbers rise in a state
  abbrev pub Rises : State K T F I → Type 0
  Rises s = Rise (numbers s.objects)

  -- an object of the next number is new
  pub next_is_free : (s : State K T F I) (x : Object F I) → x.id ≡ s.next_id → IsSound s → IsFree (λ y. y.id) x s.objects
  next_is_free s x next sound = newest_is_free (λ y. y.id) x s.objects (subst (λ n. All (λ y. y.id < n) s.objects) (sym next) sound.objects.drawn)

  pub rises_parsed : (s : State K T F I) (ticket : ℕ) (outcome : Option (ParseOutcome F I)) → All (λ y. y.id ≢ ticket) s.objects → Rises s → Rises (parsed_state s ticket outcome)
  rises_parsed s ticket None free rises = rises
  rises_parsed s ticket (Some EndsItself) free rises = rises
  rises_parsed s ticket (Some (EndsMade face inner)) free rises =
      let x : Object F I = record { id = ticket; body = Other face inner; permanent = false; exclusive = false } in
      rise-inserted x s.objects (free_from_other (λ y. y.id) x s.objects free) rises
  rises_parsed s ticket (Some (EndsReparse text)) free rises = rises
  rises_parsed s ticket (Some (EndsRefused k)) free rises = rises

module _ {K T F I : Type 0} (g : Procedures K T F I) where
  pub rises_settled : (s : State K T F I) → Rises s → Rises (settle g s)
  rises_settled s rises = rise-filter (is_alive s) s.objects rises

  pub rises_opened : (s : State K T F I) (m : ℕ) (reason : Reason) → Rises s → Rises (with_open g s m reason)
  rises_opened s m reason rises = subst Rise (sym (numbers-map (opened_object g s.set m reason) (opened_object-id g s.set m reason) s.objects)) rises

  pub rises_closed : (s : State K T F I) (h : Held) → Rises s → Rises (closed_handle g s h)
  rises_closed s h rises = subst Rise (sym (numbers-map (closed_object g s.set h.object _ _) (closed_object-id g s.set h.object _ _) s.objects)) rises

  pub rises_turned : (s : State K T F I) (m : ℕ) (permanent : Bool) → Rises s → Rises (turned s m permanent)
  rises_turned s m permanent rises =
      turned_either Rises s m permanent rises (subst Rise (sym (numbers-map (turned_object m permanent) (turned_object-id m permanent) s.objects)) rises)

  -- the object that a create makes, as its open left it
  abbrev pub new_object : State K T F I → Spot → Body F I → ℕ → Object F I
  new_object s spot body attrs =
      record { id = s.next_id; body = opened_body g s.set body Created; permanent = is_some spot && has_flag permanent_flag attrs; exclusive = has_flag exclusive_flag attrs }

  pub rises_created : (s : State K T F I) (p : ℕ) (spot : Spot) (body : Body F I) (attrs value : ℕ) → IsSound s → Rises s → Rises (created g s p spot body attrs value)
  rises_created s p spot body attrs value sound rises =
      let x : Object F I = new_object s spot body attrs in
      rise-inserted x s.objects (next_is_free s x refl sound) rises

  pub rises_inherits : (s : State K T F I) (child : ℕ) (hs : List Held) → Rises s → Rises (inherits g s child hs)
  rises_inherits s child [] rises = rises
  rises_inherits s child (h ∷ hs) rises = rises_inherits (inherits_one g s child h) child hs (go (open_refusal g s h.object Inherited))
    where
      go : (r : Option ℕ) → Rises (option_map_or (λ _. record s { next_order = s.next_order + 1 }) r (with_handle (with_open g s h.object Inherited) child h.value h.object true))
      go None = rises_opened s h.object Inherited rises
      go (Some k) = rises

  pub rises_closed_all : (s : State K T F I) (hs : List Held) → Rises s → Rises (closed_in_turn g s hs)
  rises_closed_all s [] rises = rises
  rises_closed_all s (h ∷ hs) rises = rises_closed_all (closed_handle g s h) hs (rises_closed s h rises)

  rises_came : (s t : State K T F I) → IsSound s → Rises s → Came g s t → Rises t
  rises_came s t sound rises came =
      came_leads g s Rises rises (λ body. rises)
      (λ p value m asked reason e. rises_settled (with_handle (with_open g s m reason) p value m asked.inherit) (rises_opened s m reason rises))
      (λ p spot body attrs value lawful. rises_settled (created g s p spot body attrs value) (rises_created s p spot body attrs value sound rises))
      (λ h. rises_settled (closed_handle g s h) (rises_closed s h rises))
      (λ m permanent. rises_settled (turned s m permanent) (rises_turned s m permanent rises))
      (λ p d. rises_settled (with_map s p d) rises)
      (λ p inherit. rises_settled (begun g s p inherit) (rises_inherits (with_child s p) s.next_process (inherited_from s p inherit) rises))
      (λ p. rises_settled (ended g s p) (rises_closed_all s (handles_in s p) rises))
      (λ p attrs wanted m rest n. rises_settled (with_pending s p attrs wanted m rest n) rises) t came

  -- a step
  pub rises_step : (s t : State K T F I) (event : Event K) (answer : Answer) → IsSound s → Rises s → Step g s event answer t → Rises t
  rises_step s t (Start p command) answer sound rises h = rises_came s t sound rises (started p command answer h)
  rises_step s t (Resume ticket parse) answer sound rises h = go (pending_of s ticket) (has_ticket s ticket sound) h.2
    where
      go : (found : Option (PendingOpen K)) → MatchOption found (Unit {0}) (HasTicket s) → MatchOption found ⊥ (λ x. Resumes g s x h.0 answer t) → Rises t
      go None has does = absurd does
      go (Some x) has does =
          subst Rises (sym does.2)
          (rises_settled does.0
          (rises_came (parsed_state s x.ticket h.0) does.0 (parsed_sound s x.ticket h.0 has.0 has.1 sound) (rises_parsed s x.ticket h.0 has.0 rises)
          (judged ((not (is_live s x.process), ProcessGone) ∷ []) x h.0 answer does.1)))
  rises_step s t (Abandon ticket parse) answer sound rises h = go (pending_of s ticket) (has_ticket s ticket sound) h.2
    where
      go : (found : Option (PendingOpen K)) → MatchOption found (Unit {0}) (HasTicket s) → MatchOption found ⊥ (λ x. Abandons g s x h.0 answer t) → Rises t
      go None has does = absurd does
      go (Some x) has does = subst Rises (sym does.1) (rises_settled (parsed_state s x.ticket h.0) (rises_parsed s x.ticket h.0 has.0 rises))
