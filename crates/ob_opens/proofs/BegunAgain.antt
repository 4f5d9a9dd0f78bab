-- An open waits again, under a new ticket, in place of one that ends: the state, and what its new parse needs.
use Rattle.std.proofs.Common.{◌≡◌, ◌∙◌, ℕ, ◌+◌, ◌<◌, ◌==◌, ◌||◌, not, cond, Bool, true, false, List, [], ◌∷◌, ◌++◌, All, Option, Some, find, filter, option_map, is_some, ap, refl, sym, subst, arith, eq-eqb, eqb-true}
use Rattle.std.specs.Prelude.{MatchOption}
use Rattle.std.specs.Option.{option_and_then}
use Rattle.std.proofs.lemmas.Bool.{ne_eqb}
use Rattle.std.proofs.lemmas.List.Elements.{All-filter, All-head, All-tail, filter-append}
use Rattle.std.proofs.lemmas.List.Folds.{list_any-append}
use Rattle.ob_base.specs.declared.status.Status.TheVariants.{InsufficientResources}
use Rattle.ob_model.specs.declared.reply.Answer.{Answer}
use Rattle.ob_model.specs.declared.reply.Answer.TheVariants.{Ticket}
use Rattle.ob_model.specs.declared.state.Object.{Object}
use Rattle.ob_model.specs.declared.state.PendingOpen.{PendingOpen}
use Rattle.ob_model.specs.Grants.{first_refusal}
use Rattle.ob_model.specs.Looks.{Parse}
use Rattle.ob_model.specs.PendingOpens.{face_in, face_of, pending_of, with_pending, without_pending}
use Rattle.ob_model.specs.Procedures.{Procedures}
use Rattle.ob_model.specs.Refusals.{answers}
use Rattle.ob_model.specs.Settle.{settle, is_pinned}
use Rattle.ob_model.specs.Sound.{IsSound}
use Rattle.ob_model.specs.State.{State, is_store_full}
use Rattle.ob_model.proofs.Settled.{alive_from_pin, object_of-settle, settle-settle}
use Rattle.ob_model.proofs.SoundPaths.{find_of, of_some}
use Rattle.ob_opens.specs.Again.{OpensAgain}
use Rattle.ob_opens.proofs.OpensAgain.{opens_again, some_is}
use Rattle.ob_opens.proofs.Endings.{is_done, is_refused, its_ticket}

or_right : (a b : Bool) → b ≡ true → (a || b) ≡ true
or_right true b e = refl
or_right false b e = e

-- the open of the greatest ticket is found under it
pub last_found : {K : Type 0} (n : ℕ) (y : PendingOpen K) (xs : List (PendingOpen K)) → All (λ x. x.ticket < n) xs → y.ticket ≡ n → find (λ x. x.ticket == n) (xs ++ y ∷ []) ≡ Some y
last_found n y [] all is = rw (eq-eqb y.ticket n is) refl
last_found {K} n y (x ∷ xs) all is = go (x.ticket == n) refl (last_found n y xs (All-tail (λ z. z.ticket < n) x xs all) is)
  where
    go : (b : Bool) → (x.ticket == n) ≡ b → find (λ z. z.ticket == n) (xs ++ y ∷ []) ≡ Some y → cond b (Some x) (find (λ z. z.ticket == n) (xs ++ y ∷ [])) ≡ Some y
    go true e rest = let less : x.ticket < n = All-head (λ z. z.ticket < n) x xs all in absurd (omega (arith, less, eqb-true x.ticket n e))
    go false e rest = rest

-- the open of a ticket is found again, and the object is as it was
Pins : {K T F I : Type 0} → State K T F I → State K T F I → ℕ → List ℕ → ℕ → Type 0
Pins s t object rest n = MatchOption (pending_of t n) ⊥ (λ y. (y.rest ≡ rest) × (y.object ≡ object)) × (face_of t object ≡ face_of s object)

module _ {K T F I : Type 0} (g : Procedures K T F I) (s : State K T F I) (ticket : ℕ) (x : PendingOpen K) (found : pending_of s ticket ≡ Some x) (object : ℕ) (rest : List ℕ) (left : ℕ) where
  -- the state in which the old open is pending no longer, and the one in which the new one is pending beside it
  abbrev w : State K T F I
  w = without_pending s ticket

  abbrev both : State K T F I
  both = with_pending s x.process x.attrs x.wanted object rest left

  abbrev new : PendingOpen K
  new = record { ticket = s.next_id; process = x.process; object = object; rest = rest; left = left; attrs = x.attrs; wanted = x.wanted }

  abbrev z : State K T F I
  z = with_pending w x.process x.attrs x.wanted object rest left

  -- a state that is shown, with the new open at the end of its opens, and its number drawn
  pub put_beside : (t : State K T F I) → t ≡ s → (opens : List (PendingOpen K)) → opens ≡ (with_pending t x.process x.attrs x.wanted object rest left).pending
      → record t { pending = opens; next_id = t.next_id + 1 } ≡ with_pending s x.process x.attrs x.wanted object rest left
  put_beside t shown opens last =
      (λ i. record t { pending = last i; next_id = t.next_id + 1 }) ∙ ap (λ (u : State K T F I). with_pending u x.process x.attrs x.wanted object rest left) shown

  -- there is no room
  pub full_again : (answer : Answer) (t : State K T F I) → is_store_full w ≡ true → answer ≡ answers InsufficientResources → t ≡ settle g w → OpensAgain g s ticket (Parse object rest left) answer t
  full_again answer t full told settles =
      opens_again g s ticket x found answer t (Parse object rest left) w
      (is_refused ((is_store_full w, InsufficientResources) ∷ []) w answer w _ InsufficientResources (ap (λ b. first_refusal ((b, InsufficientResources) ∷ [])) full) (told, refl)) settles

  module _ (sound : IsSound s) where
    drawn : ticket < s.next_id
    drawn =
        let below : x.ticket < s.next_id = of_some (λ y. y.ticket < s.next_id) (pending_of s ticket) x found (find_of (λ y. y.ticket < s.next_id) (λ y. y.ticket == ticket) s.pending sound.pending.ticketed) in
        let is = its_ticket g s ticket x found in
        omega (arith, below, is)

    -- it is all one which of both changes comes first
    either_first : without_pending both ticket ≡ z
    either_first = λ i. record both { pending = opens i }
      where
        other : not (s.next_id == ticket) ≡ true
        other = ap not (ne_eqb s.next_id ticket (λ same. omega (arith, drawn, same)))

        opens : filter (λ y. not (y.ticket == ticket)) (s.pending ++ new ∷ []) ≡ filter (λ y. not (y.ticket == ticket)) s.pending ++ new ∷ []
        opens =
            filter-append (λ y. not (y.ticket == ticket)) s.pending (new ∷ [])
            ∙ ap (λ (b : Bool). filter (λ y. not (y.ticket == ticket)) s.pending ++ cond b (new ∷ []) []) other

    module _ (t : State K T F I) (settles : t ≡ settle g (without_pending both ticket)) where
      is_settled : t ≡ settle g z
      is_settled = settles ∙ ap (settle g) either_first

      -- the open is pending again
      pub begins_again : is_store_full w ≡ false → OpensAgain g s ticket (Parse object rest left) (Ticket s.next_id) t
      begins_again room =
          opens_again g s ticket x found (Ticket s.next_id) t (Parse object rest left) (settle g z)
          (is_done ((is_store_full w, InsufficientResources) ∷ []) w (Ticket s.next_id) (settle g z) _ (ap (λ b. first_refusal ((b, InsufficientResources) ∷ [])) room) (refl, refl))
          (is_settled ∙ sym (settle-settle g z))

      pinned : is_pinned z object ≡ true
      pinned = list_any-append (λ (q : PendingOpen K). q.object == object) w.pending _ ∙ or_right (is_pinned w object) _ (ap (λ b. b || false) (eq-eqb object object refl))

      face_same : face_of (settle g z) object ≡ face_of s object
      face_same = ap (λ (o : Option (Object F I)). option_and_then face_in (option_map (λ y. y.body) o)) (object_of-settle g z object (alive_from_pin z object pinned))

      -- and its parse is that of the object that it pins
      pins_it : Pins s (settle g z) object rest s.next_id
      unfolding Pins
      pins_it = (
        subst (λ (o : Option (PendingOpen K)). MatchOption o ⊥ (λ y. (y.rest ≡ rest) × (y.object ≡ object)))
            (sym (last_found s.next_id new w.pending (All-filter (λ y. not (y.ticket == ticket)) (λ y. y.ticket < s.next_id) s.pending sound.pending.ticketed) refl)) (refl, refl),
        face_same,
      )

      pub pins_again : (n : ℕ) → Ticket s.next_id ≡ Ticket n → MatchOption (pending_of t n) ⊥ (λ y. (y.rest ≡ rest) × (y.object ≡ object)) × (face_of t object ≡ face_of s object)
      unfolding Pins
      pins_again n same =
          let number : s.next_id ≡ n = cc in
          subst (λ (m : ℕ). Pins s t object rest m) number (subst (λ (v : State K T F I). Pins s v object rest s.next_id) (sym is_settled) pins_it)

-- there is no room: of any open that is pending under the ticket
pub full_there : {K T F I : Type 0} (g : Procedures K T F I) (s : State K T F I) (ticket object left : ℕ) (rest : List ℕ) (answer : Answer) (t : State K T F I) → is_some (pending_of s ticket) ≡ true
    → is_store_full (without_pending s ticket) ≡ true → answer ≡ answers InsufficientResources → t ≡ settle g (without_pending s ticket) → OpensAgain g s ticket (Parse object rest left) answer t
full_there g s ticket object left rest answer t there full told settles = let at = some_is (pending_of s ticket) there in full_again g s ticket at.0 at.1 object rest left answer t full told settles
