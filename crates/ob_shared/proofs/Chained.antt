-- Steps that lead from an event to an answer, as they go on.
use Rattle.std.proofs.Common.{◌≡◌, ◌∙◌, ℕ, ◌+◌, List, [], ◌∷◌, ◌++◌, length, Option, None, Some, MatchOption, Result, Ok, Err, OnOk, refl, ap, sym, subst, append_assoc}
use Rattle.std.specs.Prelude.{IfOk, IfErr}
use Rattle.std.specs.Option.{option_map_or}
use Rattle.ob_base.specs.declared.fault.Fault.{Fault}
use Rattle.ob_base.specs.declared.status.Status.TheVariants.{Success}
use Rattle.ob_model.specs.declared.reply.Answer.{Answer}
use Rattle.ob_model.specs.declared.reply.Answer.TheVariants.{Done, Ticket}
use Rattle.ob_model.specs.declared.reply.Event.{Event}
use Rattle.ob_model.specs.declared.reply.Event.TheVariants.{Resume, Abandon}
use Rattle.ob_model.specs.declared.reply.ParseRun.{ParseRun}
use Rattle.ob_model.specs.declared.reply.Reply.{Reply}
use Rattle.ob_model.specs.declared.state.PendingOpen.{PendingOpen as Waiting}
use Rattle.ob_model.specs.Parses.{Abandons}
use Rattle.ob_model.specs.PendingOpens.{pending_of}
use Rattle.ob_model.specs.Procedures.{Procedures}
use Rattle.ob_model.specs.Refusals.{answers}
use Rattle.ob_model.specs.Run.{Entry}
use Rattle.ob_model.specs.State.{State}
use Rattle.ob_model.specs.Step.{Step}
use Rattle.ob_types.specs.Parse.{HasRun, ToRun, asked_of}
use Rattle.ob_opens.specs.Waiting.{IsParseOf}
use Rattle.ob_entries.specs.Segments.{Segment, AreSealed}
use Rattle.ob_agreement.specs.declared.compared.Mismatch.{Mismatch}
use Rattle.ob_locked.specs.declared.started.Started.{Started}
use Rattle.ob_locked.specs.declared.started.Started.TheVariants as started
use Rattle.ob_segments.specs.Journal.{open_segment, whole}
use Rattle.ob_locked.specs.declared.started.Pending.TheVariants as pending
use Rattle.ob_locked.specs.Answers.{answer_in, IfWaits}
use Rattle.ob_locked.specs.Entered.{entered}
use Rattle.ob_locked.specs.Locked.{History}
use Rattle.ob_locked.specs.Places.{places_for}
use Rattle.ob_locked.specs.Steps.{IsFull, IsMade, IsNotAdmitted, IsNotResumed, IsNotSealed, MaySeal}
use Rattle.ob_locked.specs.Passed.{Passed, IsKnown}
use Rattle.ob_agreement.specs.Agreement.{IsMismatch, Agrees}
use Rattle.ob_shared.specs.Chains.{IsChain, IsGivenUpAt, IsOnTheWay, IsRunToReply}
use Rattle.ob_shared.specs.Told.{IsCutOff, IsGivenUpAfter, IsNotStarted, IsOfRun, IsSealed, IsTold, IsUnsealed}

-- whatever leads to the one open leads on to the other
abbrev pub GoesOn : {K : Type 0} → ℕ → Passed K → ℕ → Passed K → Type 0
GoesOn {K} ticket pass next pass' = (before : Passed K) (event : Event K) → IsOnTheWay before event ticket pass → IsOnTheWay before event next pass'

-- a chain to a ticket, and the step that resumes its open
pub chain_on : {K : Type 0} (es : List (Entry K)) (event : Event K) (ticket : ℕ) (parse : ParseRun) (e : Entry K) (answer : Answer) → IsChain es event (Ticket ticket) → e.event ≡ Resume ticket parse → e.answer ≡ answer
    → IsChain (es ++ e ∷ []) event answer
chain_on [] event ticket parse e answer chain resumes ends = absurd chain
chain_on (x ∷ []) event ticket parse e answer (asked, waits) resumes ends = (asked, ticket, parse, waits, (resumes, ends))
chain_on (x ∷ y ∷ es) event ticket parse e answer (asked, other, run, waits, rest) resumes ends = (asked, other, run, waits, chain_on (y ∷ es) (Resume other run) ticket parse e answer rest resumes ends)

-- one step more: an open that waits is brought, and waits again
pub way_on : {K : Type 0} (before p p' : Passed K) (event : Event K) (ticket next : ℕ) (parse : ParseRun) (e : Entry K) → IsOnTheWay before event ticket p → p'.receipts ≡ p.receipts ++ e ∷ [] → p'.seat ≡ p.seat
    → e.event ≡ Resume ticket parse → e.answer ≡ Ticket next → IsOnTheWay before event next p'
way_on before p p' event ticket next parse e (steps, receipts, chain, seat) adds same resumes waits = (
  steps ++ e ∷ [],
  adds ∙ ap (λ l. l ++ e ∷ []) receipts ∙ append_assoc before.receipts steps (e ∷ []),
  chain_on steps event ticket parse e (Ticket next) chain resumes waits,
  same ∙ seat,
)

module _ {K T F I : Type 0} (g : Procedures K T F I) where
  -- one step more is the last: the command is run to its reply
  pub way_to_reply : (before p p' : Passed K) (event : Event K) (ticket : ℕ) (parse : ParseRun) (reply : Reply) → IsOnTheWay before event ticket p → IsTold {I = I} g p (Resume ticket parse) (started.Done reply) p'
      → IsRunToReply g before event reply p'
  way_to_reply before p p' event ticket parse reply (steps, receipts, chain, seat) told =
      let e : Entry K = entered (length (whole told.before.journal) + 1) p.seat (Resume ticket parse) (Done reply) in record {
        steps = steps ++ e ∷ [];
        receipts = told.made.receipts ∙ ap (λ l. l ++ e ∷ []) receipts ∙ append_assoc before.receipts steps (e ∷ []);
        leads = chain_on steps event ticket parse e (Done reply) chain refl refl;
        seat = told.made.seat ∙ seat;
        before = p;
        last = Resume ticket parse;
        told = told;
      }

  -- a start that is answered is all of it
  pub start_to_reply : (p p' : Passed K) (event : Event K) (reply : Reply) → IsTold {I = I} g p event (started.Done reply) p' → IsRunToReply g p event reply p'
  start_to_reply p p' event reply told = record {
    steps = entered (length (whole told.before.journal) + 1) p.seat event (Done reply) ∷ [];
    receipts = told.made.receipts;
    leads = (refl, refl);
    seat = told.made.seat;
    before = p;
    last = event;
    told = told;
  }

  -- a start whose open waits is on the way
  pub start_on_the_way : (p p' : Passed K) (event : Event K) (parse : ToRun F) → IsTold {I = I} g p event (started.Parsing parse) p' → IsOnTheWay p event parse.ticket p'
  start_on_the_way p p' event parse told = (entered (length (whole told.before.journal) + 1) p.seat event (Ticket parse.ticket) ∷ [], told.made.receipts, (refl, refl), told.made.seat)

  -- a resume whose open waits again is on the way
  pub resume_on_the_way : (before p p' : Passed K) (event : Event K) (ticket : ℕ) (parse : ParseRun) (next : ToRun F) → IsOnTheWay before event ticket p
      → IsTold {I = I} g p (Resume ticket parse) (started.Parsing next) p' → IsOnTheWay before event next.ticket p'
  resume_on_the_way before p p' event ticket parse next way told =
      way_on before p p' event ticket next.ticket parse (entered (length (whole told.before.journal) + 1) p.seat (Resume ticket parse) (Ticket next.ticket)) way told.made.receipts told.made.seat refl refl

  -- the outcome of a resume, as its call reports it
  module _ (before p p' : Passed K) (event : Event K) (ticket asked : ℕ) (parse : ParseRun) (same : asked ≡ ticket) (way : IsOnTheWay before event ticket p) where
    module _ {E : Type 0} (r : Result (Started T K F I) E) (s : Started T K F I) (is : r ≡ Ok s) (told : IfOk r (λ x. IsTold g p (Resume asked parse) x p')) where
      told_so : (x : Started T K F I) → s ≡ x → IsTold g p (Resume ticket parse) x p'
      told_so x one =
          subst (λ y. IsTold g p (Resume ticket parse) y p') one
          (subst (λ n. IsTold g p (Resume n parse) s p') same (subst (λ (q : Result (Started T K F I) E). IfOk q (λ y. IsTold g p (Resume asked parse) y p')) is told))

      pub brought_to_reply : (reply : Reply) → s ≡ started.Done reply → IsRunToReply g before event reply p'
      brought_to_reply reply one = way_to_reply before p p' event ticket parse reply way (told_so (started.Done reply) one)

      pub brought_on : (next : ToRun F) → s ≡ started.Parsing next → IsOnTheWay before event next.ticket p'
      brought_on next one = resume_on_the_way before p p' event ticket parse next way (told_so (started.Parsing next) one)

  -- an open that is given up on the way
  pub brought_to_an_end : {X : Type 0} (before p p' : Passed K) (event : Event K) (ticket : ℕ) (r : Result X Fault) (fault : Fault) (parsed : HasRun F I) → r ≡ Err fault
      → IfErr r (λ f. IsCutOff g p parsed f p') → parsed.ticket ≡ ticket → IsOnTheWay before event ticket p → IsGivenUpAt g before event fault p'
  brought_to_an_end {X} before p p' event ticket r fault parsed is ended same way = record {
    waited = p;
    parsed = parsed;
    way = subst (λ n. IsOnTheWay before event n p) (sym same) way;
    ended = subst (λ (x : Result X Fault). IfErr x (λ f. IsCutOff g p parsed f p')) is ended;
  }

  -- what a call under the lock says of a history, is so of that of a run
  module _ (h : History K T F I) (run : IsOfRun g h) where
    -- a start
    module _ (p p' : Passed K) (event : Event K) (r : Result (Started T K F I) Fault) where
      pub start_told : (h' : History K T F I) → IfOk r (λ started. IsMade g h p event (answer_in started) h' p') → OnOk r (IsKnown (whole h.journal) p.receipts × (IsFull (length h.journal.unsealed) (places_for h.state.pending) → ⊥))
          → IfOk r (λ started. IfWaits started (IsParseOf h'.state)) → IfOk r (λ started. IsTold g p event started p')
      start_told h' made admitted waits = go r made admitted waits
        where
          go : (x : Result (Started T K F I) Fault) → IfOk x (λ started. IsMade g h p event (answer_in started) h' p')
              → OnOk x (IsKnown (whole h.journal) p.receipts × (IsFull (length h.journal.unsealed) (places_for h.state.pending) → ⊥))
              → IfOk x (λ started. IfWaits started (IsParseOf h'.state)) → IfOk x (λ started. IsTold g p event started p')
          go (Ok started) made admitted waits = record { before = h; after = h'; run = run; known = admitted.0; made = made; waits = waits }
          go (Err fault) made admitted waits = tt

      pub start_refused : IfErr r (λ fault. IsNotAdmitted h.journal (places_for h.state.pending) p.receipts fault) → IfErr r (λ fault. IsNotStarted g p fault)
      start_refused why = go r why
        where
          go : (x : Result (Started T K F I) Fault) → IfErr x (λ fault. IsNotAdmitted h.journal (places_for h.state.pending) p.receipts fault) → IfErr x (λ fault. IsNotStarted g p fault)
          go (Ok started) why = tt
          go (Err fault) why = (h, run, why)

    -- a seal
    pub seal_told : {A : Type 0} (segment_of : A → Segment K) (r : Result A Fault) → AreSealed 1 1 h.journal.sealed → OnOk r (MaySeal h.journal) → IfOk r (λ s. segment_of s ≡ open_segment h.journal)
        → IfOk r (λ s. IsSealed g (segment_of s))
    seal_told segment_of (Ok s) order may is = (h, run, order, may, is)
    seal_told segment_of (Err fault) order may is = tt

    pub seal_refused : {A : Type 0} (r : Result A Fault) → IfErr r (λ fault. IsNotSealed h.journal fault) → IfErr r (λ fault. IsUnsealed g fault)
    seal_refused (Ok s) why = tt
    seal_refused (Err fault) why = (h, run, why)

    -- a resume that made no step, and the end of its open there and then
    pub cut_off : (h' : History K T F I) (p q p' : Passed K) (parsed back : HasRun F I) (fault : Fault) → IsNotResumed g h p (asked_of parsed) fault → h' ≡ h → q ≡ p → Some back ≡ Some parsed
        → IsGivenUpAfter g h' q (pending.Run back) p' → IsCutOff g p parsed fault p'
    cut_off h' p q p' parsed back fault why same kept own given =
        let is : back ≡ parsed = ap (λ (o : Option (HasRun F I)). option_map_or (λ x. x) o parsed) own in
        let after =
        subst (λ x. IsGivenUpAfter g h p (pending.Run x) p') is (subst (λ x. IsGivenUpAfter g h x (pending.Run back) p') kept (subst (λ x. IsGivenUpAfter g x q (pending.Run back) p') same given)) in
        (h, run, (why, after))

  -- an abandon succeeds
  pub abandon_succeeds : (s t : State K T F I) (ticket : ℕ) (parse : ParseRun) (answer : Answer) → Step g s (Abandon ticket parse) answer t → answer ≡ answers Success
  abandon_succeeds s t ticket parse answer (outcome, brought, ends) = go (pending_of s ticket) ends
    where
      go : (o : Option (Waiting K)) → MatchOption o ⊥ (λ x. Abandons g s x outcome answer t) → answer ≡ answers Success
      go None none = absurd none
      go (Some x) ends = ends.0

-- the same facts of equal journals, passes and counts
pub settled_as : {K : Type 0} (j j' : List (Entry K)) (ps ps' : List (Passed K)) (n n' : ℕ) → j ≡ j' → ps ≡ ps' → n ≡ n' → Agrees j ps n → Agrees j' ps' n'
settled_as j j' ps ps' n n' same_j same_ps same_n settled =
    subst (λ k. Agrees j' ps' k) same_n (subst (λ qs. Agrees j' qs n) same_ps (subst (λ l. Agrees l ps n) same_j settled))

pub mismatch_as : {K : Type 0} (j : List (Entry K)) (ps ps' : List (Passed K)) (n n' : ℕ) (m : Mismatch) → ps ≡ ps' → n ≡ n' → IsMismatch j ps n m → IsMismatch j ps' n' m
mismatch_as j ps ps' n n' m same_ps same_n told = subst (λ k. IsMismatch j ps' k m) same_n (subst (λ qs. IsMismatch j qs n m) same_ps told)
