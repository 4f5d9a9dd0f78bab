-- A pending open that is resumed and opens nothing: its process is gone, or its parse was refused.
use Rattle.std.proofs.Common.{◌≡◌, ℕ, ◌==◌, not, cond, Bool, true, false, List, [], ◌∷◌, find, Option, None, Some, refl, sym, subst, eqb-true}
use Rattle.std.specs.Prelude.{MatchOption}
use Rattle.ob_base.specs.declared.status.Status.TheVariants.{ProcessGone}
use Rattle.ob_model.specs.declared.reply.Answer.{Answer}
use Rattle.ob_model.specs.declared.state.PendingOpen.{PendingOpen}
use Rattle.ob_model.specs.Procedures.{Procedures, ParseOutcome, EndsRefused}
use Rattle.ob_model.specs.State.{State, is_live}
use Rattle.ob_model.specs.PendingOpens.{pending_of, without_pending}
use Rattle.ob_model.specs.Parses.{EndsOpen, Resumes}
use Rattle.ob_model.specs.Refusals.{answers, Unless}
use Rattle.ob_model.specs.Settle.{settle}
use Rattle.ob_opens.specs.Refused.{refusal_of, status_of}

-- the open that is found under a ticket has that ticket
pub has_ticket : {K : Type 0} (ticket : ℕ) (x : PendingOpen K) (xs : List (PendingOpen K)) → find (λ y. y.ticket == ticket) xs ≡ Some x → x.ticket ≡ ticket
has_ticket ticket x [] found = cc
has_ticket {K} ticket x (y ∷ ys) found = go (y.ticket == ticket) refl found (has_ticket ticket x ys)
  where
    go : (b : Bool) → (y.ticket == ticket) ≡ b → cond b (Some y) (find (λ z. z.ticket == ticket) ys) ≡ Some x → (find (λ z. z.ticket == ticket) ys ≡ Some x → x.ticket ≡ ticket) → x.ticket ≡ ticket
    go true e is rest = let same : y ≡ x = cc in subst (λ (z : PendingOpen K). z.ticket ≡ ticket) same (eqb-true y.ticket ticket e)
    go false e is rest = rest is

module _ {K T F I : Type 0} (g : Procedures K T F I) (s t : State K T F I) (x : PendingOpen K) (answer : Answer) where
  -- a parse that found no memory or was refused
  pub refuses : (code : Option ℕ) (live : Bool) → live ≡ is_live s x.process → answer ≡ answers (status_of live code) → t ≡ settle g (without_pending s x.ticket)
      → Resumes g s x (refusal_of code) answer t
  refuses None false is told left = (without_pending s x.ticket, subst (λ (b : Bool). Unless ((not b, ProcessGone) ∷ []) (without_pending s x.ticket) answer (without_pending s x.ticket) (EndsOpen g (without_pending s x.ticket) x None answer (without_pending s x.ticket))) is (told, refl), left)
  refuses None true is told left = (without_pending s x.ticket, subst (λ (b : Bool). Unless ((not b, ProcessGone) ∷ []) (without_pending s x.ticket) answer (without_pending s x.ticket) (EndsOpen g (without_pending s x.ticket) x None answer (without_pending s x.ticket))) is (told, refl), left)
  refuses (Some k) false is told left = (without_pending s x.ticket, subst (λ (b : Bool). Unless ((not b, ProcessGone) ∷ []) (without_pending s x.ticket) answer (without_pending s x.ticket) (EndsOpen g (without_pending s x.ticket) x (Some (EndsRefused k)) answer (without_pending s x.ticket))) is (told, refl), left)
  refuses (Some k) true is told left = (without_pending s x.ticket, subst (λ (b : Bool). Unless ((not b, ProcessGone) ∷ []) (without_pending s x.ticket) answer (without_pending s x.ticket) (EndsOpen g (without_pending s x.ticket) x (Some (EndsRefused k)) answer (without_pending s x.ticket))) is (told, refl), left)

  -- what is told of the open that was found is told of what is pending under the ticket
  pub of_pending : (ticket : ℕ) (outcome : Option (ParseOutcome F I)) → pending_of s ticket ≡ Some x → Resumes g s x outcome answer t → MatchOption (pending_of s ticket) ⊥ (λ y. Resumes g s y outcome answer t)
  of_pending ticket outcome found told = subst (λ (o : Option (PendingOpen K)). MatchOption o ⊥ (λ y. Resumes g s y outcome answer t)) (sym found) told
