-- The open that is pending under a ticket, by what is read of it and of its parse.
use Rattle.std.proofs.Common.{◌≡◌, ◌∙◌, ℕ, ◌==◌, ◌||◌, Bool, true, false, cond, List, [], ◌∷◌, Option, None, Some, find, option_map, is_some, refl, ap, sym, subst, eqb-true}
use Rattle.std.specs.Prelude.{MatchOption}
use Rattle.std.specs.List.{list_any}
use Rattle.ob_host.specs.declared.kind.Kind.{Kind}
use Rattle.ob_host.specs.declared.object.HostObject.{HostObject}
use Rattle.ob_model.specs.PendingOpens.{face_of, pending_of}
use Rattle.ob_model.specs.declared.state.PendingOpen.{PendingOpen}
use Rattle.ob_model.proofs.SoundPaths.{find_of, of_some}
use Rattle.ob_opens.specs.Waiting.{IsParseOf}
use Rattle.ob_runner.specs.Begun.{tickets_of}
use Rattle.ob_runner.proofs.Pending.{found_passes}
use Rattle.ob_runner.proofs.Repeated.{is_kept}
use Rattle.ob_types.specs.Parse.{ToRun}
use Rattle.ob_c_state.specs.Machine.{Space, KeepsParses}

-- a ticket under which an open is pending, or isn't, by the object at which it is
module _ (found : Option (PendingOpen Kind)) where
  pub is_there : (o : ℕ) → Some o ≡ option_map (λ x. x.object) found → is_some found ≡ true
  is_there o is = go found is
    where
      go : (x : Option (PendingOpen Kind)) → Some o ≡ option_map (λ y. y.object) x → is_some x ≡ true
      go None is = cc
      go (Some x) is = refl

  pub where_there : (P Q : Type 0) (o : ℕ) → Some o ≡ option_map (λ x. x.object) found → Q → MatchOption found P (λ _. Q)
  where_there P Q o is q = go found is
    where
      go : (x : Option (PendingOpen Kind)) → Some o ≡ option_map (λ y. y.object) x → MatchOption x P (λ _. Q)
      go None is = cc
      go (Some x) is = q

  pub where_none : (P Q : Type 0) → None ≡ option_map (λ x. x.object) found → P → MatchOption found P (λ _. Q)
  where_none P Q is p = go found is
    where
      go : (x : Option (PendingOpen Kind)) → None ≡ option_map (λ y. y.object) x → MatchOption x P (λ _. Q)
      go None is = p
      go (Some x) is = cc

-- a parse that isn't found isn't kept
not_found : (n : ℕ) (xs : List (ToRun HostObject)) → find (λ x. x.ticket == n) xs ≡ None → list_any (λ k. k == n) (tickets_of xs) ≡ true → ⊥
not_found n [] none any = cc
not_found n (x ∷ xs) none any = go (x.ticket == n) none any (not_found n xs)
  where
    go : (b : Bool) → cond b (Some x) (find (λ y. y.ticket == n) xs) ≡ None → (b || list_any (λ k. k == n) (tickets_of xs)) ≡ true
        → (find (λ y. y.ticket == n) xs ≡ None → list_any (λ k. k == n) (tickets_of xs) ≡ true → ⊥) → ⊥
    go true none any more = cc
    go false none any more = more none any

module _ (s : Space) (parses : List (ToRun HostObject)) (keeps : KeepsParses s parses) (n : ℕ) where
  -- the rest of the parse that is kept is that of the open
  pub rest_found : option_map (λ x. x.rest) (find (λ x. x.ticket == n) parses) ≡ option_map (λ x. x.rest) (pending_of s n)
  rest_found = go (find (λ x. x.ticket == n) parses) refl (pending_of s n) refl
    where
      of_parse : (x : ToRun HostObject) → find (λ y. y.ticket == n) parses ≡ Some x → IsParseOf s x
      of_parse x e = of_some (IsParseOf s) (find (λ y. y.ticket == n) parses) x e (find_of (IsParseOf s) (λ y. y.ticket == n) parses keeps.0)

      at : (x : ToRun HostObject) (pending : Option (PendingOpen Kind)) → MatchOption pending ⊥ (λ y. (y.rest ≡ x.rest) × (face_of s y.object ≡ Some x.face)) → Some x.rest ≡ option_map (λ y. y.rest) pending
      at x None is = absurd is
      at x (Some y) is = ap (λ r. Some r) (sym is.0)

      go : (found : Option (ToRun HostObject)) → find (λ x. x.ticket == n) parses ≡ found → (pending : Option (PendingOpen Kind)) → pending_of s n ≡ pending
          → option_map (λ x. x.rest) found ≡ option_map (λ x. x.rest) pending
      go None e None is = refl
      go None e (Some y) is = absurd (not_found n parses e (is_kept s parses keeps.1 n (ap is_some is)))
      go (Some x) e pending is =
          let own : x.ticket ≡ n = eqb-true x.ticket n (found_passes (λ y. y.ticket == n) parses x e) in
          at x pending (subst (λ (o : Option (PendingOpen Kind)). MatchOption o ⊥ (λ y. (y.rest ≡ x.rest) × (face_of s y.object ≡ Some x.face))) is
          (subst (λ k. MatchOption (pending_of s k) ⊥ (λ y. (y.rest ≡ x.rest) × (face_of s y.object ≡ Some x.face))) own (of_parse x e)))

  -- so it is what is given of the parse that is found
  pub rest_given : (was : Space) → s ≡ was → (found : Option (ToRun HostObject)) → found ≡ find (λ x. x.ticket == n) parses → (rest : Option (List ℕ)) → rest ≡ option_map (λ x. x.rest) found
      → rest ≡ option_map (λ x. x.rest) (pending_of was n)
  rest_given was is found same rest given =
      given ∙ ap (option_map (λ (x : ToRun HostObject). x.rest)) same ∙ rest_found ∙ ap (λ (w : Space). option_map (λ (x : PendingOpen Kind). x.rest) (pending_of w n)) is
