-- An open that is pending goes on waiting in each step that doesn't end it: it is pending under its ticket, and the
-- object that it pins stays, with its face.
use Rattle.std.proofs.Common.{◌≡◌, ◌≢◌, ◌∙◌, ℕ, ◌+◌, ◌<◌, ◌==◌, Bool, true, false, cond, not, ◌||◌, List, [], ◌∷◌, ◌++◌, find, filter, All, Option, None, Some, option_map, refl, ap, sym, subst, arith, eq-eqb, eqb-true}
use Rattle.std.specs.Prelude.{if◌then◌else◌, MatchOption}
use Rattle.std.specs.List.{list_any}
use Rattle.std.specs.Option.{option_map_or, option_and_then}
use Rattle.std.proofs.lemmas.Bool.{ne_eqb}
use Rattle.ob_base.specs.declared.status.Status.TheVariants.{ProcessGone}
use Rattle.ob_model.specs.declared.reply.Answer.{Answer}
use Rattle.ob_model.specs.declared.reply.Event.{Event}
use Rattle.ob_model.specs.declared.reply.Event.TheVariants.{Start, Resume, Abandon}
use Rattle.ob_model.specs.declared.state.Body.{Body}
use Rattle.ob_model.specs.declared.state.Body.TheVariants.{Directory, Link, Other}
use Rattle.ob_model.specs.declared.state.Held.{Held}
use Rattle.ob_model.specs.declared.state.Object.{Object}
use Rattle.ob_model.specs.declared.state.PendingOpen.{PendingOpen}
use Rattle.ob_model.specs.declared.state.Wanted.{Wanted}
use Rattle.ob_model.specs.State.{State, is_live, object_of}
use Rattle.ob_model.specs.declared.terms.Reason.{Reason}
use Rattle.ob_model.specs.declared.terms.Reason.TheVariants.{Inherited}
use Rattle.ob_model.specs.Procedures.{Procedures, ParseOutcome, EndsItself, EndsMade, EndsReparse, EndsRefused}
use Rattle.ob_model.specs.Settle.{settle}
use Rattle.ob_model.specs.Sound.{IsSound}
use Rattle.ob_model.specs.Grants.{open_refusal, opened_body, opened_object, with_open, with_handle}
use Rattle.ob_model.specs.Closing.{closed_body, closed_object, closed_handle}
use Rattle.ob_model.specs.Permanence.{turned_object, turned}
use Rattle.ob_model.specs.Maps.{with_map}
use Rattle.ob_model.specs.Creates.{Spot, created}
use Rattle.ob_model.specs.Processes.{handles_in, inherited_from, with_child, inherits_one, inherits, begun, closed_in_turn, ended}
use Rattle.ob_model.specs.PendingOpens.{face_in, face_of, pending_of, with_pending}
use Rattle.ob_model.specs.Parses.{parsed_state, Resumes, Abandons}
use Rattle.ob_model.specs.Step.{Step}
use Rattle.ob_model.proofs.Finds.{find-filter, find_none}
use Rattle.ob_model.proofs.InOrder.{in_order-others}
use Rattle.ob_model.proofs.Leads.{Came, started, judged, came_leads}
use Rattle.ob_model.proofs.PendingSound.{HasTicket, has_ticket, parsed_sound}
use Rattle.ob_model.proofs.Settled.{alive_from_pin, object_of-settle}
use Rattle.ob_model.proofs.SoundPaths.{find_of, of_some}
use Rattle.ob_model.proofs.Soundness.{find_id-map, opened_object-id, opened_object-is_directory, closed_object-id, closed_object-is_directory}
use Rattle.ob_model.proofs.Turned.{turned_object-id, turned_object-is_directory, turned_either}
use Rattle.ob_runner.specs.Begun.{IsNoEnd}

-- what is found passes
pub found_passes : {X : Type 0} (test : X → Bool) (xs : List X) (x : X) → find test xs ≡ Some x → test x ≡ true
found_passes test [] x e = cc
found_passes {X} test (y ∷ ys) x e = go (test y) refl e (found_passes test ys x)
  where
    go : (b : Bool) → test y ≡ b → cond b (Some y) (find test ys) ≡ Some x → (find test ys ≡ Some x → test x ≡ true) → test x ≡ true
    go true is e rest = let same : y ≡ x = cc in ap test (sym same) ∙ is
    go false is e rest = rest e

-- what is found is there
any_found : {X : Type 0} (test checks : X → Bool) (xs : List X) (x : X) → find test xs ≡ Some x → checks x ≡ true → list_any checks xs ≡ true
any_found test checks [] x e is = cc
any_found {X} test checks (y ∷ ys) x e is = go (test y) e (any_found test checks ys x)
  where
    or_right : (a b : Bool) → b ≡ true → (a || b) ≡ true
    or_right true b h = refl
    or_right false b h = h

    go : (b : Bool) → cond b (Some y) (find test ys) ≡ Some x → (find test ys ≡ Some x → checks x ≡ true → list_any checks ys ≡ true) → (checks y || list_any checks ys) ≡ true
    go true e rest = let same : y ≡ x = cc in ap (λ b. b || list_any checks ys) (ap checks same ∙ is)
    go false e rest = or_right (checks y) (list_any checks ys) (rest e is)

-- and is found before what comes behind
found_before : {X : Type 0} (test : X → Bool) (xs ys : List X) (x : X) → find test xs ≡ Some x → find test (xs ++ ys) ≡ Some x
found_before test [] ys x e = cc
found_before {X} test (z ∷ xs) ys x e = go (test z) e (found_before test xs ys x)
  where
    go : (b : Bool) → cond b (Some z) (find test xs) ≡ Some x → (find test xs ≡ Some x → find test (xs ++ ys) ≡ Some x) → cond b (Some z) (find test (xs ++ ys)) ≡ Some x
    go true e rest = e
    go false e rest = rest e

-- the face of an object, where there is one
abbrev face_found : {F I : Type 0} → Option (Object F I) → Option F
face_found x = option_and_then face_in (option_map (λ y. y.body) x)

-- an object that isn't there has none
faceless : {F I : Type 0} (found : Option (Object F I)) (f : F) → found ≡ None → face_found found ≡ Some f → ⊥
faceless None f e is = cc
faceless (Some x) f e is = cc

-- faces stay where objects change otherwise
module _ {F I : Type 0} (f : Object F I → Object F I) (same : (x : Object F I) → face_in (f x).body ≡ face_in x.body) where
  face_kept : (found : Option (Object F I)) → face_found (option_map f found) ≡ face_found found
  face_kept None = refl
  face_kept (Some x) = same x

module _ {K T F I : Type 0} (g : Procedures K T F I) where
  opened_face : (set : T) (reason : Reason) (body : Body F I) → face_in (opened_body g set body reason) ≡ face_in body
  opened_face set reason (Directory shadow) = refl
  opened_face set reason (Link target) = refl
  opened_face set reason (Other face inner) = refl

  opened_object_face : (set : T) (o : ℕ) (reason : Reason) (x : Object F I) → face_in (opened_object g set o reason x).body ≡ face_in x.body
  opened_object_face set o reason x =
      elim (x.id == o) as (λ b. face_in (if b then record x { body = opened_body g set x.body reason } else x).body ≡ face_in x.body)
      [ true ↦ opened_face set reason x.body | false ↦ refl ]

  closed_face : (set : T) (left total : ℕ) (body : Body F I) → face_in (closed_body g set left total body) ≡ face_in body
  closed_face set left total (Directory shadow) = refl
  closed_face set left total (Link target) = refl
  closed_face set left total (Other face inner) = refl

  closed_object_face : (set : T) (o left total : ℕ) (x : Object F I) → face_in (closed_object g set o left total x).body ≡ face_in x.body
  closed_object_face set o left total x =
      elim (x.id == o) as (λ b. face_in (if b then record x { body = closed_body g set left total x.body } else x).body ≡ face_in x.body)
      [ true ↦ closed_face set left total x.body | false ↦ refl ]

turned_object_face : {F I : Type 0} (o : ℕ) (permanent : Bool) (x : Object F I) → face_in (turned_object o permanent x).body ≡ face_in x.body
turned_object_face o permanent x = elim (x.id == o) as (λ b. face_in (if b then record x { permanent = permanent } else x).body ≡ face_in x.body) [ true ↦ refl | false ↦ refl ]

module _ {K T F I : Type 0} (g : Procedures K T F I) (k : ℕ) (x : PendingOpen K) (f : F) where
  -- under the ticket this open is pending, and the object that it pins has this face
  abbrev pub IsPending : State K T F I → Type 0
  IsPending s = (pending_of s k ≡ Some x) × (face_of s x.object ≡ Some f)

  settled_pending : (s : State K T F I) → IsPending s → IsPending (settle g s)
  settled_pending s h = (
    h.0,
    ap face_found (object_of-settle g s x.object (alive_from_pin s x.object (any_found (λ y. y.ticket == k) (λ y. y.object == x.object) s.pending x h.0 (eq-eqb x.object x.object refl)))) ∙ h.1,
  )

  opened_pending : (s : State K T F I) (m : ℕ) (reason : Reason) (p value : ℕ) (inherit : Bool) → IsPending s → IsPending (with_handle (with_open g s m reason) p value m inherit)
  opened_pending s m reason p value inherit h = (
    h.0,
    ap face_found (find_id-map (opened_object g s.set m reason) (opened_object-id g s.set m reason) (opened_object-is_directory g s.set m reason) x.object s.objects)
        ∙ face_kept (opened_object g s.set m reason) (opened_object_face g s.set m reason) (object_of s x.object) ∙ h.1,
  )

  closed_pending : (s : State K T F I) (held : Held) → IsPending s → IsPending (closed_handle g s held)
  closed_pending s held h = (
    h.0,
    ap face_found (find_id-map (closed_object g s.set held.object _ _) (closed_object-id g s.set held.object _ _) (closed_object-is_directory g s.set held.object _ _) x.object s.objects)
        ∙ face_kept (closed_object g s.set held.object _ _) (closed_object_face g s.set held.object _ _) (object_of s x.object) ∙ h.1,
  )

  turned_pending : (s : State K T F I) (m : ℕ) (permanent : Bool) → IsPending s → IsPending (turned s m permanent)
  turned_pending s m permanent h =
      turned_either IsPending s m permanent h (
        h.0,
        ap face_found (find_id-map (turned_object m permanent) (turned_object-id m permanent) (turned_object-is_directory m permanent) x.object s.objects)
            ∙ face_kept (turned_object m permanent) (turned_object_face m permanent) (object_of s x.object) ∙ h.1,
      )

  inherits_pending : (s : State K T F I) (child : ℕ) (hs : List Held) → IsPending s → IsPending (inherits g s child hs)
  inherits_pending s child [] h = h
  inherits_pending s child (held ∷ hs) h = inherits_pending (inherits_one g s child held) child hs (go (open_refusal g s held.object Inherited))
    where
      go : (r : Option ℕ) → IsPending (option_map_or (λ _. record s { next_order = s.next_order + 1 }) r (with_handle (with_open g s held.object Inherited) child held.value held.object true))
      go None = opened_pending s held.object Inherited child held.value true h
      go (Some n) = h

  closed_all_pending : (s : State K T F I) (hs : List Held) → IsPending s → IsPending (closed_in_turn g s hs)
  closed_all_pending s [] h = h
  closed_all_pending s (held ∷ hs) h = closed_all_pending (closed_handle g s held) hs (closed_pending s held h)

  -- an object more has another number
  created_pending : (s : State K T F I) (p : ℕ) (spot : Spot) (body : Body F I) (attrs value : ℕ) → x.object < s.next_id → IsPending s → IsPending (created g s p spot body attrs value)
  created_pending s p spot body attrs value below h = (
    h.0,
    ap face_found (in_order-others (λ y. y.id) (λ y. y.id == x.object) _ s.objects (ne_eqb s.next_id x.object (λ same. omega (arith, below, same)))) ∙ h.1,
  )

  waiting_pending : (s : State K T F I) (p attrs : ℕ) (wanted : Wanted K) (m : ℕ) (rest : List ℕ) (n : ℕ) → IsPending s → IsPending (with_pending s p attrs wanted m rest n)
  waiting_pending s p attrs wanted m rest n h = (found_before (λ y. y.ticket == k) s.pending _ x h.0, h.1)

  -- its object was made before it
  object_below : (s : State K T F I) → IsSound s → IsPending s → x.object < s.next_id
  object_below s sound h =
      let later : x.object < x.ticket = of_some (λ y. y.object < y.ticket) (pending_of s k) x h.0 (find_of (λ y. y.object < y.ticket) (λ y. y.ticket == k) s.pending sound.pending.later) in
      let drawn : x.ticket < s.next_id = of_some (λ y. y.ticket < s.next_id) (pending_of s k) x h.0 (find_of (λ y. y.ticket < s.next_id) (λ y. y.ticket == k) s.pending sound.pending.ticketed) in
      omega (arith, later, drawn)

  -- a start, and what a parse leads to
  came_pending : (s t : State K T F I) → IsSound s → IsPending s → Came g s t → IsPending t
  came_pending s t sound h came =
      came_leads g s IsPending h (λ body. h)
      (λ p value m asked reason e. settled_pending (with_handle (with_open g s m reason) p value m asked.inherit) (opened_pending s m reason p value asked.inherit h))
      (λ p spot body attrs value lawful. settled_pending (created g s p spot body attrs value) (created_pending s p spot body attrs value (object_below s sound h) h))
      (λ held. settled_pending (closed_handle g s held) (closed_pending s held h))
      (λ m permanent. settled_pending (turned s m permanent) (turned_pending s m permanent h))
      (λ p d. settled_pending (with_map s p d) h)
      (λ p inherit. settled_pending (begun g s p inherit) (inherits_pending (with_child s p) s.next_process (inherited_from s p inherit) h))
      (λ p. settled_pending (ended g s p) (closed_all_pending s (handles_in s p) h))
      (λ p attrs wanted m rest n. settled_pending (with_pending s p attrs wanted m rest n) (waiting_pending s p attrs wanted m rest n h)) t came

  -- the state in which the end of another open is judged
  module _ (s : State K T F I) (h : IsPending s) (n : ℕ) (other : n ≢ k) (reserved : All (λ y. y.id ≢ n) s.objects) where
    others_found : find (λ y. y.ticket == k) (filter (λ y. not (y.ticket == n)) s.pending) ≡ Some x
    others_found = find-filter (λ (y : PendingOpen K). y.ticket == k) (λ y. not (y.ticket == n)) (λ y is. ap not (ne_eqb y.ticket n (λ same. other (sym same ∙ eqb-true y.ticket k is)))) s.pending ∙ h.0

    apart : n ≢ x.object
    apart same =
        faceless (object_of s x.object) f
        (find_none (λ y. y.id == x.object) s.objects (λ i d within. ne_eqb _ x.object (λ is. reserved i d within (is ∙ sym same)))) h.1

    parsed_pending : (outcome : Option (ParseOutcome F I)) → IsPending (parsed_state s n outcome)
    parsed_pending None = (others_found, h.1)
    parsed_pending (Some EndsItself) = (others_found, h.1)
    parsed_pending (Some (EndsReparse text)) = (others_found, h.1)
    parsed_pending (Some (EndsRefused code)) = (others_found, h.1)
    parsed_pending (Some (EndsMade face inner)) =
        (others_found, ap face_found (in_order-others (λ y. y.id) (λ y. y.id == x.object) _ s.objects (ne_eqb n x.object apart)) ∙ h.1)

  -- a step that isn't its end
  pub step_pending : (s t : State K T F I) (event : Event K) (answer : Answer) → IsSound s → IsNoEnd k event → IsPending s → Step g s event answer t → IsPending t
  step_pending s t (Start p command) answer sound other h does = came_pending s t sound h (started p command answer does)
  step_pending s t (Resume n parse) answer sound other h does = go (pending_of s n) refl (has_ticket s n sound) does.2
    where
      go : (found : Option (PendingOpen K)) → pending_of s n ≡ found → MatchOption found (Unit {0}) (HasTicket s) → MatchOption found ⊥ (λ y. Resumes g s y does.0 answer t) → IsPending t
      go None e has resumes = absurd resumes
      go (Some y) e has resumes =
          let u = parsed_state s y.ticket does.0 in
          let same : y.ticket ≡ n = eqb-true y.ticket n (found_passes (λ z. z.ticket == n) s.pending y e) in
          let pending : IsPending u = parsed_pending s h y.ticket (λ is. other (sym same ∙ is)) has.0 does.0 in
          subst IsPending (sym resumes.2)
          (settled_pending resumes.0
          (came_pending u resumes.0 (parsed_sound s y.ticket does.0 has.0 has.1 sound) pending (judged ((not (is_live s y.process), ProcessGone) ∷ []) y does.0 answer resumes.1)))
  step_pending s t (Abandon n parse) answer sound other h does = go (pending_of s n) refl (has_ticket s n sound) does.2
    where
      go : (found : Option (PendingOpen K)) → pending_of s n ≡ found → MatchOption found (Unit {0}) (HasTicket s) → MatchOption found ⊥ (λ y. Abandons g s y does.0 answer t) → IsPending t
      go None e has abandons = absurd abandons
      go (Some y) e has abandons =
          let same : y.ticket ≡ n = eqb-true y.ticket n (found_passes (λ z. z.ticket == n) s.pending y e) in
          subst IsPending (sym abandons.1) (settled_pending (parsed_state s y.ticket does.0) (parsed_pending s h y.ticket (λ is. other (sym same ∙ is)) has.0 does.0))
