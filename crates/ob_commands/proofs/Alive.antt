-- What stays in one state stays in another one, where what stays by itself does so there too, and the shadows are those.
use Rattle.std.proofs.Common.{◌≡◌, ◌∙◌, ℕ, ◌||◌, ◌&&◌, Bool, true, false, get_or, ap, refl}
use Rattle.std.proofs.lemmas.Bool.{or_right}
use Rattle.ob_model.specs.State.{State}
use Rattle.ob_model.specs.Settle.{has_shadow, is_alive_itself, is_shadowing, is_alive}
use Rattle.ob_model.proofs.Finds.{list_any_weaker}
use Rattle.ob_model.proofs.Staying.{KeepShadows}

pub imply_or : (a b c d : Bool) → (a ≡ true → b ≡ true) → (c ≡ true → d ≡ true) → (a || c) ≡ true → (b || d) ≡ true
imply_or true b c d first second h = ap (λ x. x || d) (first refl)
imply_or false b c d first second h = ap (λ x. b || x) (second h) ∙ or_right b true refl

imply_and : (a b c : Bool) → (b ≡ true → c ≡ true) → (a && b) ≡ true → (a && c) ≡ true
imply_and true b c more e = more e
imply_and false b c more e = cc

module _ {K T F I : Type 0} (s u : State K T F I) (shadows : KeepShadows s.objects u.objects) (itself : (o : ℕ) → is_alive_itself s o ≡ true → is_alive_itself u o ≡ true) where
  pub alive_too : (o : ℕ) → is_alive s o ≡ true → is_alive u o ≡ true
  alive_too o =
      imply_or (is_alive_itself s o) (is_alive_itself u o) (is_shadowing s o) (is_shadowing u o) (itself o)
      (λ some.
      list_any_weaker (λ x. has_shadow o x.body && is_alive_itself s x.id) (λ x. has_shadow o x.body && is_alive_itself u x.id) u.objects
      (λ k d below. imply_and (has_shadow o (get_or u.objects k d).body) (is_alive_itself s (get_or u.objects k d).id) (is_alive_itself u (get_or u.objects k d).id) (itself (get_or u.objects k d).id))
      (shadows o (is_alive_itself s) some))
