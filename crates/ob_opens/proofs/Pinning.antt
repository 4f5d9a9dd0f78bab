-- An open more is pending: nothing goes, and the state stays orderly.
use Rattle.std.proofs.Common.{◌≡◌, ◌∙◌, ℕ, ◌==◌, ◌||◌, ◌<◌, ◌≤◌, Bool, true, false, List, [], ◌∷◌, ◌&&◌, get_or, ap, refl, sym, subst, arith}
use Rattle.std.specs.Prelude.{MatchOption}
use Rattle.std.proofs.lemmas.List.Elements.{All-weaker}
use Rattle.std.proofs.lemmas.List.Folds.{list_any-append}
use Rattle.ob_base.specs.declared.status.Status.TheVariants.{InsufficientResources}
use Rattle.ob_model.specs.declared.reply.Answer.TheVariants.{Ticket}
use Rattle.ob_model.specs.declared.state.PendingOpen.{PendingOpen}
use Rattle.ob_model.specs.declared.state.Wanted.{Wanted}
use Rattle.ob_model.specs.Procedures.{Procedures}
use Rattle.ob_model.specs.State.{State, root_id, is_store_full}
use Rattle.ob_model.specs.PendingOpens.{with_pending}
use Rattle.ob_model.specs.Grants.{first_refusal}
use Rattle.ob_model.specs.Opens.{Begins}
use Rattle.ob_model.specs.Refusals.{IsRefused}
use Rattle.ob_model.specs.Settle.{IsSettled, settle, has_handle, is_pinned, is_mapped, is_permanent, has_name, holds_kept}
use Rattle.ob_model.proofs.Staying.{settled_itself}
use Rattle.ob_space.specs.Orderly.{IsOrderly}
use Rattle.ob_opens.proofs.Stays.{alive_still}

-- a state stays orderly with another value of the set, where other opens are pending, and where numbers were drawn
pub pending_orderly : {K T F I : Type 0} (idle : I → Type 0) (s : State K T F I) (set : T) (opens : List (PendingOpen K)) (next : ℕ) → IsOrderly idle s → s.next_id ≤ next
    → IsOrderly idle (record s { set = set; pending = opens; next_id = next })
pending_orderly idle s set opens next orderly above = record {
  root = orderly.root;
  rising = orderly.rising;
  drawn = All-weaker (λ x. x.id < s.next_id) (λ x. x.id < next) (λ x less. omega (arith, less, above)) s.objects orderly.drawn;
  standing = orderly.standing;
  descending = orderly.descending;
  stamped = orderly.stamped;
  unheld = orderly.unheld;
  opened = orderly.opened;
  numbered = orderly.numbered;
  few_handles = orderly.few_handles;
  few_processes = orderly.few_processes;
}

pub opens_orderly : {K T F I : Type 0} (idle : I → Type 0) (s : State K T F I) (opens : List (PendingOpen K)) → IsOrderly idle s → IsOrderly idle (record s { pending = opens })
opens_orderly idle s opens orderly = pending_orderly idle s s.set opens s.next_id orderly (omega (arith))

pub set_orderly : {K T F I : Type 0} (idle : I → Type 0) (s : State K T F I) (set : T) → IsOrderly idle s → IsOrderly idle (record s { set = set })
set_orderly idle s set orderly = pending_orderly idle s set s.pending s.next_id orderly (omega (arith))

-- the tests of staying, of which the third may be met where it wasn't
grows : (a p p' b c d : Bool) → (p ≡ true → p' ≡ true) → (a || p || b || c || d) ≡ true → (a || p' || b || c || d) ≡ true
grows true p p' b c d more e = refl
grows false true p' b c d more e = ap (λ x. x || b || c || d) (more refl)
grows false false true b c d more e = refl
grows false false false b c d more e = e

or_left : (a b : Bool) → a ≡ true → (a || b) ≡ true
or_left true b e = refl
or_left false b e = cc

module _ {K T F I : Type 0} (g : Procedures K T F I) (s : State K T F I) (p attrs : ℕ) (wanted : Wanted K) (o : ℕ) (rest : List ℕ) (n : ℕ) where
  pinned_still : (x : ℕ) → is_pinned s x ≡ true → is_pinned (with_pending s p attrs wanted o rest n) x ≡ true
  pinned_still x e = list_any-append (λ (q : PendingOpen K). q.object == x) s.pending _ ∙ or_left (is_pinned s x) _ e

  pub pending_settled : IsSettled s → IsSettled (with_pending s p attrs wanted o rest n)
  pending_settled settled = record {
    names = settled.names;
    objects = λ k x below.
        alive_still s (with_pending s p attrs wanted o rest n) refl
        (λ m itself.
        grows ((m == root_id) || has_handle s m) (is_pinned s m) (is_pinned (with_pending s p attrs wanted o rest n) m) (is_mapped s m) (is_permanent s m && has_name s m) (holds_kept s m) (pinned_still m) itself)
        (get_or s.objects k x).id (settled.objects k x below);
  }

  pub begins : is_store_full s ≡ false → IsSettled s → (t : State K T F I) → t ≡ with_pending s p attrs wanted o rest n → Begins g s p attrs wanted o rest n (Ticket s.next_id) t
  begins room settled t is =
      subst (λ b. MatchOption (first_refusal ((b, InsufficientResources) ∷ [])) Does (λ status. IsRefused s status (Ticket s.next_id) t)) (sym room)
      (refl, is ∙ sym (settled_itself g (with_pending s p attrs wanted o rest n) (pending_settled settled)))
    where
      Does : Type 0
      Does = (Ticket s.next_id ≡ Ticket s.next_id) × (t ≡ settle g (with_pending s p attrs wanted o rest n))
