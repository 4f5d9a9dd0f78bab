-- What a step leaves of the opens that wait.
use Rattle.std.proofs.Common.{◌≡◌, ◌∙◌, ℕ, ◌+◌, ◌==◌, Bool, true, false, not, List, [], ◌∷◌, filter, Option, None, Some, MatchOption, refl, ap, sym, subst, cond, find, eqb-true}
use Rattle.std.specs.Option.{option_map_or}
use Rattle.ob_base.specs.declared.status.Status.TheVariants.{ProcessGone}
use Rattle.ob_model.specs.declared.command.Command.{Command}
use Rattle.ob_model.specs.declared.reply.Answer.{Answer}
use Rattle.ob_model.specs.declared.reply.Event.{Event}
use Rattle.ob_model.specs.declared.reply.Event.TheVariants.{Start, Resume, Abandon}
use Rattle.ob_model.specs.declared.state.Held.{Held}
use Rattle.ob_model.specs.declared.state.PendingOpen.{PendingOpen}
use Rattle.ob_model.specs.State.{State, is_live}
use Rattle.ob_model.specs.Looks.{Look, At, Vacant, Parse, Refused}
use Rattle.ob_model.specs.PendingOpens.{pending_of}
use Rattle.ob_model.specs.declared.terms.Reason.TheVariants.{Inherited}
use Rattle.ob_model.specs.Procedures.{Procedures, ParseOutcome, EndsItself, EndsMade, EndsReparse, EndsRefused}
use Rattle.ob_model.specs.Parses.{parsed_state, Resumes, Abandons}
use Rattle.ob_model.specs.Grants.{open_refusal, with_open, with_handle}
use Rattle.ob_model.specs.Closing.{closed_handle}
use Rattle.ob_model.specs.Processes.{handles_in, inherited_from, with_child, inherits_one, inherits, closed_in_turn}
use Rattle.ob_model.specs.Step.{Step}
use Rattle.ob_model.proofs.Turned.{turned_either}
use Rattle.ob_model.specs.Waiting.{others, WaitBehind}
use Rattle.ob_model.proofs.Answered.{HandsFew, start_told, unless_ends_told}

-- whatever a lookup hands on
Any : ℕ → Type 0
Any n = Unit {0}

any : (look : Look) → HandsFew Any look
unfolding Any
any (At o) = tt
any (Vacant d c) = tt
any (Parse o rest n) = tt
any (Refused status) = tt

-- what is found under a ticket has it
found_ticket : {K : Type 0} (n : ℕ) (xs : List (PendingOpen K)) (x : PendingOpen K) → find (λ y. y.ticket == n) xs ≡ Some x → x.ticket ≡ n
found_ticket n [] x e = cc
found_ticket {K} n (y ∷ ys) x e = go (y.ticket == n) refl e (found_ticket n ys x)
  where
    go : (b : Bool) → (y.ticket == n) ≡ b → cond b (Some y) (find (λ z. z.ticket == n) ys) ≡ Some x → (find (λ z. z.ticket == n) ys ≡ Some x → x.ticket ≡ n) → x.ticket ≡ n
    go true is e rest = let same : y ≡ x = cc in ap (λ (z : PendingOpen K). z.ticket) (sym same) ∙ eqb-true y.ticket n is
    go false is e rest = rest e

module _ {K T F I : Type 0} (g : Procedures K T F I) where
  -- the opens that wait stay while handles are inherited and closed
  inherits-pending : (s : State K T F I) (child : ℕ) (hs : List Held) → (inherits g s child hs).pending ≡ s.pending
  inherits-pending s child [] = refl
  inherits-pending s child (h ∷ hs) = inherits-pending (inherits_one g s child h) child hs ∙ go (open_refusal g s h.object Inherited)
    where
      go : (refusal : Option ℕ)
          → (option_map_or (λ _. record s { next_order = s.next_order + 1 }) refusal (with_handle (with_open g s h.object Inherited) child h.value h.object true)).pending ≡ s.pending
      go None = refl
      go (Some k) = refl

  closes-pending : (s : State K T F I) (hs : List Held) → (closed_in_turn g s hs).pending ≡ s.pending
  closes-pending s [] = refl
  closes-pending s (h ∷ hs) = closes-pending (closed_handle g s h) hs

  module _ (s : State K T F I) where
    Waits : Answer → State K T F I → Type 0
    Waits answer t = WaitBehind s.pending answer t.pending

    -- a start ends none
    started : (t : State K T F I) (p : ℕ) (command : Command K) (answer : Answer) → Step g s (Start p command) answer t → Waits answer t
    unfolding Waits
    started t p command answer h =
        start_told g s Waits Any
        (λ status. refl)
        (λ k body. refl)
        (λ status q value o asked reason. refl)
        (λ q spot body attrs value. refl)
        (λ held. refl)
        (λ o permanent. turned_either (λ u. u.pending ≡ s.pending) s o permanent refl refl)
        (λ q d. refl)
        (λ q. closes-pending s (handles_in s q))
        (λ q attrs wanted o rest n few. (_, refl, refl))
        p command
        (λ inherit is. inherits-pending (with_child s p) s.next_process (inherited_from s p inherit))
        (λ reply is. refl)
        (λ mode at name look looks. any look)
        t command refl answer h

  parsed-pending : (s : State K T F I) (ticket : ℕ) (outcome : Option (ParseOutcome F I)) → (parsed_state s ticket outcome).pending ≡ filter (λ y. not (y.ticket == ticket)) s.pending
  parsed-pending s ticket None = refl
  parsed-pending s ticket (Some EndsItself) = refl
  parsed-pending s ticket (Some (EndsMade face inner)) = refl
  parsed-pending s ticket (Some (EndsReparse text)) = refl
  parsed-pending s ticket (Some (EndsRefused k)) = refl

  module _ (s : State K T F I) where
    resumes : (t : State K T F I) (x : PendingOpen K) (outcome : Option (ParseOutcome F I)) (answer : Answer) → Resumes g s x outcome answer t
        → WaitBehind (filter (λ y. not (y.ticket == x.ticket)) s.pending) answer t.pending
    unfolding Waits
    resumes t x outcome answer (v, ends, settles) =
        subst (λ opens. WaitBehind opens answer t.pending) (parsed-pending s x.ticket outcome)
        (subst (λ (w : State K T F I). WaitBehind u.pending answer w.pending) (sym settles) led)
      where
        u : State K T F I
        u = parsed_state s x.ticket outcome

        led : Waits u answer v
        led =
            unless_ends_told g u (Waits u) Any
            (λ status. refl)
            (λ k body. refl)
            (λ status q value o asked reason. refl)
            (λ q spot body attrs value. refl)
            (λ held. refl)
            (λ o permanent. turned_either (λ w. w.pending ≡ u.pending) u o permanent refl refl)
            (λ q d. refl)
            (λ q. closes-pending u (handles_in u q))
            (λ q attrs wanted o rest n few. (_, refl, refl))
            v ((not (is_live s x.process), ProcessGone) ∷ []) x outcome answer (λ text look looks. any look) ends

    abandons : (t : State K T F I) (x : PendingOpen K) (outcome : Option (ParseOutcome F I)) (answer : Answer) → Abandons g s x outcome answer t
        → WaitBehind (filter (λ y. not (y.ticket == x.ticket)) s.pending) answer t.pending
    abandons t x outcome answer h =
        subst (λ a. WaitBehind (filter (λ y. not (y.ticket == x.ticket)) s.pending) a t.pending) (sym h.0)
        (ap (λ (w : State K T F I). w.pending) h.1 ∙ parsed-pending s x.ticket outcome)

    -- an open that ends waits no longer
    ends : (t : State K T F I) (ticket : ℕ) (answer : Answer) (Does : PendingOpen K → Type 0)
        → ((x : PendingOpen K) → Does x → WaitBehind (filter (λ y. not (y.ticket == x.ticket)) s.pending) answer t.pending)
        → MatchOption (pending_of s ticket) ⊥ Does → WaitBehind (filter (λ y. not (y.ticket == ticket)) s.pending) answer t.pending
    ends t ticket answer Does does h = go (pending_of s ticket) refl h
      where
        go : (found : Option (PendingOpen K)) → pending_of s ticket ≡ found → MatchOption found ⊥ Does → WaitBehind (filter (λ y. not (y.ticket == ticket)) s.pending) answer t.pending
        go None e h = absurd h
        go (Some x) e h = subst (λ k. WaitBehind (filter (λ y. not (y.ticket == k)) s.pending) answer t.pending) (found_ticket ticket s.pending x e) (does x h)

    waits_behind : (t : State K T F I) (e : Event K) (answer : Answer) → Step g s e answer t → WaitBehind (others e s.pending) answer t.pending
    unfolding Waits
    waits_behind t (Start p command) answer h = started s t p command answer h
    waits_behind t (Resume ticket parse) answer (outcome, brought, h) = ends t ticket answer (λ x. Resumes g s x outcome answer t) (λ x. resumes t x outcome answer) h
    waits_behind t (Abandon ticket parse) answer (outcome, brought, h) = ends t ticket answer (λ x. Abandons g s x outcome answer t) (λ x. abandons t x outcome answer) h

module _ {K T F I : Type 0} where
  -- the opens that wait behind a step
  pub opens_wait : (g : Procedures K T F I) (s u : State K T F I) (e : Event K) (a : Answer) → Step g s e a u → WaitBehind (others e s.pending) a u.pending
  opens_wait g s u e a h = waits_behind g s u e a h
