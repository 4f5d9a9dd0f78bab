-- The calls of a grant on an object, where a create, an open, a duplicate or the end of a pending open may give
-- a handle.
use Rattle.std.proofs.Common.{◌≡◌, ◌≢◌, ◌∙◌, ℕ, ◌<◌, Bool, cond, not, ◌&&◌, List, [], ◌∷◌, All, Option, None, Some, is_some, refl, ap, sym, subst, arith}
use Rattle.std.proofs.lemmas.List.Elements.{All-weaker}
use Rattle.ob_base.specs.declared.status.Status.{Status}
use Rattle.ob_base.specs.declared.status.Status.TheVariants.{Success, ProcessGone}
use Rattle.ob_base.specs.Attrs.{has_flag, inherit_flag, permanent_flag, exclusive_flag}
use Rattle.ob_model.specs.declared.command.Place.{Place}
use Rattle.ob_model.specs.declared.reply.Answer.{Answer}
use Rattle.ob_model.specs.declared.reply.Answer.TheVariants.{Ticket}
use Rattle.ob_model.specs.declared.reply.Given.TheVariants.{Handle}
use Rattle.ob_model.specs.declared.state.Body.{Body}
use Rattle.ob_model.specs.declared.state.PendingOpen.{PendingOpen}
use Rattle.ob_model.specs.declared.state.Wanted.{Wanted}
use Rattle.ob_model.specs.State.{State, is_live, handle_count}
use Rattle.ob_model.specs.declared.terms.Reason.{Reason}
use Rattle.ob_model.specs.declared.terms.Reason.TheVariants.{Created}
use Rattle.ob_model.specs.Procedures.{Procedures, ParseOutcome}
use Rattle.ob_model.specs.Settle.{settle}
use Rattle.ob_model.specs.declared.terms.GrantOptions.{GrantOptions}
use Rattle.ob_model.specs.Grants.{IsFreeValue, open_refusal_of, open_refusal, opened_body, with_open, with_handle}
use Rattle.ob_model.specs.Refusals.{gives, answers, Unless}
use Rattle.ob_model.specs.PendingOpens.{with_pending}
use Rattle.ob_model.specs.Parses.{parsed_state, EndsOpen, Resumes}
use Rattle.ob_model.specs.Creates.{Making, Spot, created, dropped}
use Rattle.ob_model.specs.Processes.{Duplicates}
use Rattle.ob_model.specs.Sound.{IsSound}
use Rattle.ob_model.specs.Step.{CreatesAt, OpensName}
use Rattle.ob_model.specs.Calls.{handle_given, calls_of_grant}
use Rattle.ob_model.proofs.PendingSound.{parsed_sound, HasTicket}
use Rattle.ob_model.proofs.Settled.{settle-settle}
use Rattle.ob_laws.proofs.CallCounts.{Tells}
use Rattle.ob_laws.proofs.LifeOf.{set_count}
use Rattle.ob_laws.proofs.SetCounts.{of_set-opened, count-settle, count-inserted, count-parsed, undrawn, ungranted, given_tells}
use Rattle.ob_laws.proofs.GrantSteps.{unless_lands, creates_at_lands, duplicates_lands, opens_name_lands, ends_open_lands}

module _ {K T F I : Type 0} (g : Procedures K T F I) (s : State K T F I) (p o : ℕ) (reason : Reason) (sound : IsSound s) where
  -- what the calls of a grant tell of the object in a state, given an answer
  abbrev GrantTells : Answer → State K T F I → Type 0
  GrantTells answer t = Tells (set_count s o) (calls_of_grant reason t p (handle_given answer) o) (set_count t o)

  nothing_tells : (t : State K T F I) → set_count s o ≡ set_count t o → Tells (set_count s o) (calls_of_grant reason t p None o) (set_count t o)
  nothing_tells t same = subst (λ calls. Tells (set_count s o) calls (set_count t o)) (sym (ungranted reason t p o)) same

  grant_tells : (value m : ℕ) (asked : GrantOptions) (why : Reason) → IsFreeValue s p value
      → let t = settle g (with_handle (with_open g s m why) p value m asked.inherit) in Tells (set_count s o) (calls_of_grant reason t p (Some value) o) (set_count t o)
  grant_tells value m asked why free =
      given_tells g s (with_handle (with_open g s m why) p value m asked.inherit) (record { process = p; value = value; object = m; inherit = asked.inherit; order = s.next_order }) refl
      free.1 o (ap (λ b. cond b (handle_count s o) 0) (of_set-opened g s m o why)) reason

  make_tells : (spot : Spot) (body : Body F I) (attrs value : ℕ) → IsFreeValue s p value
      → let t = settle g (created g s p spot body attrs value) in Tells (set_count s o) (calls_of_grant reason t p (Some value) o) (set_count t o)
  make_tells spot body attrs value free =
      given_tells g s (created g s p spot body attrs value)
      (record { process = p; value = value; object = s.next_id; inherit = has_flag inherit_flag attrs; order = s.next_order }) refl free.1 o
      (count-inserted s (record { id = s.next_id; body = opened_body g s.set body Created; permanent = is_some spot && has_flag permanent_flag attrs; exclusive = has_flag exclusive_flag attrs }) o sound
      (undrawn s s.next_id sound (omega arith))) reason

  pub create_tells : (t : State K T F I) (where_to : Place) (attrs : ℕ) (shadow : Option ℕ) (making : Option ℕ → Making K) (answer : Answer)
      → CreatesAt g s p where_to attrs shadow making answer t → GrantTells answer t
  create_tells t where_to attrs shadow making answer h =
      creates_at_lands g s p GrantTells (λ why. Unit {0}) (λ body. Unit {0}) (λ status. nothing_tells s refl) (λ status body made. nothing_tells (dropped g s body) refl)
      (λ status value m asked why fits free taken. grant_tells value m asked why free) (λ spot body attrs value made free taken. make_tells spot body attrs value free) t where_to attrs shadow making answer tt (λ d. tt) h

  pub duplicate_tells : (t : State K T F I) (from handle : ℕ) (inherit : Bool) (answer : Answer) → Duplicates g s from handle p inherit answer t → GrantTells answer t
  duplicate_tells t from handle inherit answer h =
      duplicates_lands g s p GrantTells (λ why. Unit {0}) (λ body. Unit {0}) (λ status. nothing_tells s refl) (λ status body made. nothing_tells (dropped g s body) refl)
      (λ status value m asked why fits free taken. grant_tells value m asked why free) (λ spot body attrs value made free taken. make_tells spot body attrs value free) t from handle inherit answer tt h

  pub open_tells : (t : State K T F I) (root : Option ℕ) (name : List ℕ) (attrs : ℕ) (wanted : Wanted K) (answer : Answer) → OpensName g s p root name attrs wanted answer t → GrantTells answer t
  open_tells t root name attrs wanted answer h =
      opens_name_lands g s p GrantTells (λ why. Unit {0}) (λ body. Unit {0}) (λ status. nothing_tells s refl) (λ status body made. nothing_tells (dropped g s body) refl)
      (λ status value m asked why fits free taken. grant_tells value m asked why free) (λ spot body attrs value made free taken. make_tells spot body attrs value free)
      (λ attrs wanted m rest n. nothing_tells (settle g (with_pending s p attrs wanted m rest n)) (sym (count-settle g (with_pending s p attrs wanted m rest n) o))) t root name attrs wanted answer tt h

  -- what a parse leads to, where it settles again
  pub judged_tells : (v : State K T F I) (refusals : List (Bool × Status)) (x : PendingOpen K) (outcome : Option (ParseOutcome F I)) (answer : Answer)
      → x.process ≡ p → Unless refusals s answer v (EndsOpen g s x outcome answer v) → GrantTells answer (settle g v)
  judged_tells v refusals x outcome answer owner h =
      unless_lands g s p Settled (λ why. Unit {0}) (λ body. Unit {0}) refuses drops grants makes refusals v answer (EndsOpen g s x outcome answer v)
      (ends_open_lands g s p Settled (λ why. Unit {0}) (λ body. Unit {0}) refuses drops grants makes waits v x outcome answer tt owner) h
    where
      Settled : Answer → State K T F I → Type 0
      Settled answer v = GrantTells answer (settle g v)

      refuses : (status : Status) → Settled (answers status) s
      refuses status = nothing_tells (settle g s) (sym (count-settle g s o))

      drops : (status : Status) (body : Body F I) → Unit {0} → Settled (answers status) (dropped g s body)
      drops status body made = nothing_tells (settle g (dropped g s body)) (sym (count-settle g (dropped g s body) o))

      grants : (status : Status) (value m : ℕ) (asked : GrantOptions) (why : Reason) → Unit {0} → IsFreeValue s p value → open_refusal g s m why ≡ None
          → Settled (gives status (Handle value)) (settle g (with_handle (with_open g s m why) p value m asked.inherit))
      grants status value m asked why fits free taken =
          subst (GrantTells (gives status (Handle value))) (sym (settle-settle g (with_handle (with_open g s m why) p value m asked.inherit))) (grant_tells value m asked why free)

      makes : (spot : Spot) (body : Body F I) (attrs value : ℕ) → Unit {0} → IsFreeValue s p value → open_refusal_of g s.set body Created ≡ None → Settled (gives Success (Handle value)) (settle g (created g s p spot body attrs value))
      makes spot body attrs value made free taken =
          subst (GrantTells (gives Success (Handle value))) (sym (settle-settle g (created g s p spot body attrs value))) (make_tells spot body attrs value free)

      waits : (attrs : ℕ) (wanted : Wanted K) (m : ℕ) (rest : List ℕ) (n : ℕ) → Settled (Ticket s.next_id) (settle g (with_pending s p attrs wanted m rest n))
      waits attrs wanted m rest n =
          nothing_tells (settle g (settle g (with_pending s p attrs wanted m rest n)))
          (sym (count-settle g (settle g (with_pending s p attrs wanted m rest n)) o ∙ count-settle g (with_pending s p attrs wanted m rest n) o))

module _ {K T F I : Type 0} (g : Procedures K T F I) where
  -- a pending open is resumed
  pub resume_tells : (s t : State K T F I) (x : PendingOpen K) (outcome : Option (ParseOutcome F I)) (answer : Answer) (o : ℕ) (reason : Reason)
      → IsSound s → HasTicket s x → Resumes g s x outcome answer t → Tells (set_count s o) (calls_of_grant reason t x.process (handle_given answer) o) (set_count t o)
  resume_tells s t x outcome answer o reason sound ticket h =
      let u = parsed_state s x.ticket outcome in
      let told = judged_tells g u x.process o reason (parsed_sound s x.ticket outcome ticket.0 ticket.1 sound) h.0 ((not (is_live s x.process), ProcessGone) ∷ []) x outcome answer refl h.1 in
      subst (λ v. Tells (set_count s o) (calls_of_grant reason v x.process (handle_given answer) o) (set_count v o)) (sym h.2)
      (subst (λ n. Tells n (calls_of_grant reason (settle g h.0) x.process (handle_given answer) o) (set_count (settle g h.0) o)) (count-parsed s x.ticket outcome o sound ticket.0) told)

  -- where a create draws a number, no ticket has it
  pub create_unawaited : (s t : State K T F I) (p : ℕ) (where_to : Place) (attrs : ℕ) (shadow : Option ℕ) (making : Option ℕ → Making K) (answer : Answer)
      → IsSound s → CreatesAt g s p where_to attrs shadow making answer t → All (λ x. x.ticket ≢ s.next_id) t.pending
  create_unawaited s t p where_to attrs shadow making answer sound h =
      creates_at_lands g s p (λ a u. All (λ x. x.ticket ≢ s.next_id) u.pending) (λ why. Unit {0}) (λ body. Unit {0}) (λ status. others) (λ status body made. others) (λ status value m asked why fits free taken. others)
      (λ spot body attrs value made free taken. others) t where_to attrs shadow making answer tt (λ d. tt) h
    where
      others : All (λ x. x.ticket ≢ s.next_id) s.pending
      others = All-weaker (λ x. x.ticket < s.next_id) (λ x. x.ticket ≢ s.next_id) (λ x less same. omega (arith, less, same)) s.pending sound.pending.ticketed
