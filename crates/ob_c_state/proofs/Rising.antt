-- A parse that comes next has a ticket above those of the parses before it.
use Rattle.std.proofs.Common.{◌≡◌, ◌∙◌, ℕ, ◌<◌, ◌+◌, List, ◌∷◌, ◌++◌, All, length, get_or, refl, ap, sym, subst, arith}
use Rattle.std.proofs.lemmas.List.{get_or_append_left, get_or_at, length-append, map-append}
use Rattle.std.specs.List.{AllPairs}
use Rattle.ob_types.specs.Parse.{ToRun}
use Rattle.ob_runner.specs.Begun.{tickets_of}

module _ {F : Type 0} where
  pub comes_next : (all before rest after : List (ToRun F)) (x : ToRun F) → AllPairs (λ a b. a < b) (tickets_of all) → before ++ rest ≡ all → rest ≡ x ∷ after
      → All (λ k. k < x.ticket) (tickets_of before)
  comes_next all before rest after x rise whole next k d within =
      let ks : List ℕ = tickets_of before in
      let js : List ℕ = tickets_of after in
      let cut : tickets_of all ≡ ks ++ x.ticket ∷ js = ap tickets_of (sym whole) ∙ (ap (λ (r : List (ToRun F)). tickets_of (before ++ r)) next ∙ map-append (λ (y : ToRun F). y.ticket) before (x ∷ after)) in
      let rises : AllPairs (λ a b. a < b) (ks ++ x.ticket ∷ js) = subst (AllPairs (λ a b. a < b)) cut rise in
      let long : length (ks ++ x.ticket ∷ js) ≡ length ks + length (x.ticket ∷ js) = length-append ks (x.ticket ∷ js) in
      subst (λ n. get_or ks k d < n) (get_or_at ks x.ticket js d (length ks) refl)
      (subst (λ n. n < get_or (ks ++ x.ticket ∷ js) (length ks) d) (get_or_append_left ks (x.ticket ∷ js) d k within)
      (rises k (length ks) d within (omega (arith, long))))
