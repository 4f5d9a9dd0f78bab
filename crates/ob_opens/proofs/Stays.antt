-- What stays by itself in one state does so in another one that has the same objects: then what stays does, be it by
-- itself or as a shadow.
use Rattle.std.proofs.Common.{◌≡◌, ◌∙◌, ℕ, ◌||◌, ◌&&◌, Bool, true, false, get_or, ap, refl}
use Rattle.std.specs.List.{list_any}
use Rattle.ob_model.specs.State.{State}
use Rattle.ob_model.specs.Settle.{has_shadow, is_alive_itself, is_shadowing, is_alive}
use Rattle.ob_model.proofs.Finds.{list_any_weaker}

pub both_still : (a b a' b' : Bool) → (a ≡ true → a' ≡ true) → (b ≡ true → b' ≡ true) → (a || b) ≡ true → (a' || b') ≡ true
both_still true b a' b' first second e = ap (λ x. x || b') (first refl)
both_still false true a' b' first second e = ap (λ x. a' || x) (second refl) ∙ go a'
  where
    go : (c : Bool) → (c || true) ≡ true
    go true = refl
    go false = refl
both_still false false a' b' first second e = cc

and_still : (a b c : Bool) → (b ≡ true → c ≡ true) → (a && b) ≡ true → (a && c) ≡ true
and_still true b c more e = more e
and_still false b c more e = cc

module _ {K T F I : Type 0} (s u : State K T F I) (same : u.objects ≡ s.objects) where
  pub alive_still : ((o : ℕ) → is_alive_itself s o ≡ true → is_alive_itself u o ≡ true) → (o : ℕ) → is_alive s o ≡ true → is_alive u o ≡ true
  alive_still still o =
      both_still (is_alive_itself s o) (is_shadowing s o) (is_alive_itself u o) (is_shadowing u o) (still o)
      (λ some.
      ap (list_any (λ y. has_shadow o y.body && is_alive_itself u y.id)) same
      ∙ list_any_weaker (λ y. has_shadow o y.body && is_alive_itself s y.id) (λ y. has_shadow o y.body && is_alive_itself u y.id) s.objects
      (λ k d below. and_still (has_shadow o (get_or s.objects k d).body) (is_alive_itself s (get_or s.objects k d).id) (is_alive_itself u (get_or s.objects k d).id) (still (get_or s.objects k d).id)) some)
