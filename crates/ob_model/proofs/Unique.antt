-- Components lead from a place to at most one object.
use Rattle.std.proofs.Common.{◌≡◌, ℕ, Bool, List, [], ◌∷◌, subst}
use Rattle.ob_model.specs.State.{State}
use Rattle.ob_model.specs.Paths.{Origin, InDirectory, IsPath}

module _ {K T F I : Type 0} where
  -- a path that goes on from one of two equal objects goes on from the other
  pub path_from_same : (s : State K T F I) (m n : ℕ) (cs : List (List ℕ)) (own fold : Bool) (o : ℕ) → m ≡ n → IsPath s (InDirectory m) cs own fold o → IsPath s (InDirectory n) cs own fold o
  path_from_same s m n cs own fold o e path = subst (λ (x : ℕ). IsPath s (InDirectory x) cs own fold o) e path

  pub path_unique : (s : State K T F I) (place : Origin) (cs : List (List ℕ)) (own fold : Bool) (a b : ℕ) → IsPath s place cs own fold a → IsPath s place cs own fold b → a ≡ b
  path_unique s place [] own fold a b p q = cc
  path_unique s place (c ∷ cs) own fold a b p q =
      let same : p.0 ≡ q.0 = cc in
      path_unique s (InDirectory q.0) cs own fold a b (path_from_same s p.0 q.0 cs own fold a same p.3) q.3
