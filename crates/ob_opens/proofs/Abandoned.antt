-- A parse that is brought back: whether an open waits for it, and how that open is given up.
use Rattle.std.proofs.Common.{◌≡◌, ◌∙◌, ℕ, Bool, true, false, Global, Option, None, Some, ap, refl, sym, subst}
use Rattle.std.specs.Prelude.{MatchOption, IsSome}
use Rattle.std.proofs.lemmas.Bool.{false≢true}
use Rattle.std.specs.Arc.{arc_value}
use Rattle.std.specs.declared.sync.Arc.{Arc}
use Rattle.ob_base.specs.declared.status.Status.TheVariants.{Success}
use Rattle.ob_model.specs.declared.reply.Answer.{Answer}
use Rattle.ob_model.specs.declared.reply.Event.TheVariants.{Abandon}
use Rattle.ob_model.specs.declared.reply.ParseRun.{ParseRun}
use Rattle.ob_model.specs.declared.state.PendingOpen.{PendingOpen}
use Rattle.ob_model.specs.Parses.{parsed_state, IsBrought, IsParsed, Abandons}
use Rattle.ob_model.specs.PendingOpens.{face_of, pending_of, without_pending}
use Rattle.ob_model.specs.Procedures.{Procedures, ParseOutcome, EndsItself, EndsMade, EndsReparse, EndsRefused}
use Rattle.ob_model.specs.Refusals.{answers}
use Rattle.ob_model.specs.Settle.{settle}
use Rattle.ob_model.specs.State.{State}
use Rattle.ob_objects.specs.declared.object.StoredBody.{StoredBody}
use Rattle.ob_objects.specs.declared.object.StoredBody.TheVariants as stored
use Rattle.ob_objects.specs.declared.object.StoredObject.{StoredObject}
use Rattle.ob_objects.specs.Store.{Entries, Shows, stored_at}
use Rattle.ob_opens.proofs.Refused.{has_ticket}
use Rattle.ob_types.specs.Parse.{ToRun, IsFor}
use Rattle.ob_opens.specs.Waiting.{IsAwaited, made_in}
use Rattle.ob_opens.proofs.Begun.{face_shown, face_of_set}

-- a fact that holds where the answer is yes and where it is no
pub either_way : (b : Bool) (P : Type 0) → (b ≡ true → P) → (b ≡ false → P) → P
either_way true P granted refused = granted refl
either_way false P granted refused = refused refl

module _ {K T F I : Type 0} (g : Procedures K T F I) (s : State K T F I) (asked : ToRun F) where
  -- no open is pending under its ticket
  pub none_pending : pending_of s asked.ticket ≡ None → IsAwaited g s asked → ⊥
  none_pending none h = subst (λ (o : Option (PendingOpen K)). MatchOption o ⊥ (λ x. MatchOption (face_of s x.object) ⊥ (λ pinned. IsFor g asked x pinned))) none h

  module _ (x : PendingOpen K) (found : pending_of s asked.ticket ≡ Some x) where
    into : (f : Option F) → face_of s x.object ≡ f → MatchOption f ⊥ (λ pinned. IsFor g asked x pinned) → IsAwaited g s asked
    into f is h =
        subst (λ (o : Option (PendingOpen K)). MatchOption o ⊥ (λ y. MatchOption (face_of s y.object) ⊥ (λ pinned. IsFor g asked y pinned))) (sym found)
        (subst (λ (p : Option F). MatchOption p ⊥ (λ pinned. IsFor g asked x pinned)) (sym is) h)

    out : (f : Option F) → face_of s x.object ≡ f → IsAwaited g s asked → MatchOption f ⊥ (λ pinned. IsFor g asked x pinned)
    out f is h =
        subst (λ (p : Option F). MatchOption p ⊥ (λ pinned. IsFor g asked x pinned)) is
        (subst (λ (o : Option (PendingOpen K)). MatchOption o ⊥ (λ y. MatchOption (face_of s y.object) ⊥ (λ pinned. IsFor g asked y pinned))) found h)

    module _ (store : Entries F I) (shows : Shows s store) where
      -- the object that it pins isn't there
      pub none_stored : stored_at store x.object ≡ None → IsAwaited g s asked → ⊥
      none_stored none h = out None (face_shown g s store shows x.object None none) h

      module _ (y : StoredObject F I) (there : stored_at store x.object ≡ Some y) where
        -- or isn't one of the set
        pub none_of_set : ((face : Arc F Global) (inner : I) → y.body ≡ stored.Other face inner → ⊥) → IsAwaited g s asked → ⊥
        none_of_set never h = go y.body refl
          where
            go : (b : StoredBody F I) → y.body ≡ b → ⊥
            go (stored.Directory entries shadow) is = out None (face_of_set g s store shows x.object y (stored.Directory entries shadow) there is) h
            go (stored.Link target) is = out None (face_of_set g s store shows x.object y (stored.Link target) there is) h
            go (stored.Other face inner) is = never face inner is

        -- or its face tells
        module _ (face : Arc F Global) (inner : I) (is : y.body ≡ stored.Other face inner) where
          pub faced : face_of s x.object ≡ Some (arc_value face)
          faced = face_of_set g s store shows x.object y (stored.Other face inner) there is

          pub awaits_it : IsFor g asked x (arc_value face) → IsAwaited g s asked
          awaits_it h = into (Some (arc_value face)) faced h

          pub is_for : IsAwaited g s asked → IsFor g asked x (arc_value face)
          is_for h = out (Some (arc_value face)) faced h

-- what the machine takes of a parse comes with its abandon
pub comes : {K T F I : Type 0} (g : Procedures K T F I) (s : State K T F I) (ticket : ℕ) (x : PendingOpen K) (found : pending_of s ticket ≡ Some x) (parse : ParseRun) (outcome : Option (ParseOutcome F I))
    → IsParsed g s x parse outcome → IsBrought g s (Abandon ticket parse) outcome
comes {K} g s ticket x found parse outcome taken = subst (λ (o : Option (PendingOpen K)). MatchOption o ⊥ (λ y. IsParsed g s y parse outcome)) (sym found) taken

-- the outcome of a parse that made an instance, and the state without one
pub with_inner : {F I : Type 0} (outcome : Option (ParseOutcome F I)) (inner : I) → made_in outcome ≡ Some inner → (face : F) × (outcome ≡ Some (EndsMade face inner))
with_inner None inner e = cc
with_inner (Some EndsItself) inner e = cc
with_inner (Some (EndsMade face i)) inner e = let same : i ≡ inner = cc in (face, ap (λ (j : _). Some (EndsMade face j)) same)
with_inner (Some (EndsReparse text)) inner e = cc
with_inner (Some (EndsRefused k)) inner e = cc

module _ {K T F I : Type 0} (g : Procedures K T F I) (s t : State K T F I) where
  without_inner : (n : ℕ) (outcome : Option (ParseOutcome F I)) → made_in outcome ≡ None → parsed_state s n outcome ≡ without_pending s n
  without_inner n None e = refl
  without_inner n (Some EndsItself) e = refl
  without_inner n (Some (EndsMade face inner)) e = cc
  without_inner n (Some (EndsReparse text)) e = refl
  without_inner n (Some (EndsRefused k)) e = refl

  -- an open whose parse made nothing is given up
  nothing_made : (ticket : ℕ) (x : PendingOpen K) (outcome : Option (ParseOutcome F I)) → pending_of s ticket ≡ Some x → made_in outcome ≡ None → t ≡ settle g (without_pending s ticket)
      → MatchOption (pending_of s ticket) ⊥ (λ y. Abandons g s y outcome (answers Success) t)
  nothing_made ticket x outcome found nothing left =
      subst (λ (o : Option (PendingOpen K)). MatchOption o ⊥ (λ y. Abandons g s y outcome (answers Success) t)) (sym found)
      (refl, left ∙ ap (λ (n : ℕ). settle g (without_pending s n)) (sym (has_ticket ticket x s.pending found)) ∙ ap (settle g) (sym (without_inner x.ticket outcome nothing)))

  pub nothing_made_there : (ticket : ℕ) (outcome : Option (ParseOutcome F I)) → IsSome (pending_of s ticket) → made_in outcome ≡ None → t ≡ settle g (without_pending s ticket)
      → MatchOption (pending_of s ticket) ⊥ (λ y. Abandons g s y outcome (answers Success) t)
  nothing_made_there ticket outcome there nothing left = go (pending_of s ticket) refl there
    where
      go : (o : Option (PendingOpen K)) → pending_of s ticket ≡ o → IsSome o → MatchOption (pending_of s ticket) ⊥ (λ y. Abandons g s y outcome (answers Success) t)
      go None e f = absurd (false≢true f)
      go (Some x) e f = nothing_made ticket x outcome e nothing left

  -- an open whose parse made an instance is given up, and that succeeds
  pub instance_made : (ticket : ℕ) (face : F) (inner : I) (outcome : Option (ParseOutcome F I)) (answer : Answer) → outcome ≡ Some (EndsMade face inner)
      → MatchOption (pending_of s ticket) ⊥ (λ y. Abandons g s y (Some (EndsMade face inner)) answer t)
      → MatchOption (pending_of s ticket) ⊥ (λ y. Abandons g s y outcome (answers Success) t)
  instance_made ticket face inner outcome answer is h =
      subst (λ (o : Option (ParseOutcome F I)). MatchOption (pending_of s ticket) ⊥ (λ y. Abandons g s y o (answers Success) t)) (sym is) (go (pending_of s ticket) h)
    where
      go : (o : Option (PendingOpen K)) → MatchOption o ⊥ (λ y. Abandons g s y (Some (EndsMade face inner)) answer t) → MatchOption o ⊥ (λ y. Abandons g s y (Some (EndsMade face inner)) (answers Success) t)
      go None h = h
      go (Some x) h = (refl, h.1)
