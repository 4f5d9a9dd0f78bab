-- A pending open that is resumed: the end of its parse, as it was brought, and the answer, as it is handed on.
use Rattle.std.proofs.Common.{◌≡◌, ◌∙◌, ℕ, true, false, List, Option, None, Some, ap, sym, subst}
use Rattle.std.specs.Prelude.{MatchOption}
use Rattle.ob_model.specs.declared.reply.Answer.{Answer}
use Rattle.ob_model.specs.declared.reply.Event.TheVariants.{Resume, Abandon}
use Rattle.ob_model.specs.declared.state.PendingOpen.{PendingOpen}
use Rattle.ob_model.specs.declared.state.Wanted.{Wanted}
use Rattle.ob_model.specs.declared.terms.Mode.{Mode}
use Rattle.ob_model.specs.Looks.{Look, Vacant}
use Rattle.ob_model.specs.Opens.{open_mode}
use Rattle.ob_model.specs.Parses.{IsBrought, LooksAgain, Resumes}
use Rattle.ob_model.specs.PendingOpens.{face_of, pending_of, without_pending}
use Rattle.ob_model.specs.Procedures.{Procedures, ParseOutcome, EndsReparse}
use Rattle.ob_model.specs.State.{State, is_live}
use Rattle.ob_opens.specs.Again.{OpensAgain}
use Rattle.ob_opens.proofs.OpensAgain.{resumes_again}
use Rattle.ob_types.specs.Pending.{run_of_end}
use Rattle.ob_space.specs.Looking.{IsUsable}
use Rattle.ob_opens.specs.Waiting.{IsParseOf}

module _ {K T F I : Type 0} (g : Procedures K T F I) (s t : State K T F I) (ticket : ℕ) where
  -- one end and one answer for another
  pub told : (outcome other : Option (ParseOutcome F I)) (answer second : Answer) → outcome ≡ other → answer ≡ second
      → MatchOption (pending_of s ticket) ⊥ (λ x. Resumes g s x other second t) → MatchOption (pending_of s ticket) ⊥ (λ x. Resumes g s x outcome answer t)
  told outcome other answer second ends answers h =
      subst (λ (o : Option (ParseOutcome F I)). MatchOption (pending_of s ticket) ⊥ (λ x. Resumes g s x o answer t)) (sym ends)
      (subst (λ (a : Answer). MatchOption (pending_of s ticket) ⊥ (λ x. Resumes g s x other a t)) (sym answers) h)

  -- what comes with an abandon of a parse that was run comes with its resume
  pub as_resumed : (outcome : Option (ParseOutcome F I)) → IsBrought g s (Abandon ticket (run_of_end outcome)) outcome → IsBrought g s (Resume ticket (run_of_end outcome)) outcome
  as_resumed None h = h
  as_resumed (Some end) h = h

  -- a text was looked up again, and what it leads to is done
  pub looked : (x : PendingOpen K) (text : List ℕ) (look : Look) (mode : Mode) (answer : Answer) → pending_of s ticket ≡ Some x → is_live s x.process ≡ true → mode ≡ open_mode x.wanted x.attrs
      → LooksAgain g (without_pending s ticket) x.process mode x.left text look → OpensAgain g s ticket look answer t → MatchOption (pending_of s ticket) ⊥ (λ y. Resumes g s y (Some (EndsReparse text)) answer t)
  looked x text look mode answer found live same looks opens =
      resumes_again g s ticket x found answer t text look live (subst (λ (m : Mode). LooksAgain g (without_pending s ticket) x.process m x.left text look) same looks) opens

  -- no place is vacant to an open
  pub not_vacant : (directory : ℕ) (component : List ℕ) (mode : Mode) (wanted : Wanted K) (attrs : ℕ) → mode ≡ open_mode wanted attrs → IsUsable g s mode (Vacant directory component) → ⊥
  not_vacant directory component mode wanted attrs same usable = let never : true ≡ false = sym usable.0 ∙ ap (λ (m : Mode). m.create) same in cc

  -- the parse that is handed out is the one that the open waits for, which is pending again
  pub handed : (object : ℕ) (rest : List ℕ) (face : F) → MatchOption (pending_of t ticket) ⊥ (λ x. (x.rest ≡ rest) × (x.object ≡ object)) → face_of t object ≡ Some face
      → IsParseOf t (record { ticket = ticket; face = face; rest = rest })
  handed object rest face waits is = go (pending_of t ticket) waits
    where
      go : (o : Option (PendingOpen K)) → MatchOption o ⊥ (λ x. (x.rest ≡ rest) × (x.object ≡ object)) → MatchOption o ⊥ (λ x. (x.rest ≡ rest) × (face_of t x.object ≡ Some face))
      go None h = h
      go (Some x) h = (h.0, ap (face_of t) h.1 ∙ is)
