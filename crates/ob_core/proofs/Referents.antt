-- The object of a handle that a process has stands, and so its body is there.
use Rattle.std.proofs.Common.{◌≡◌, ℕ, true, Option, None, Some, ap, sym}
use Rattle.std.specs.Option.{is_some, option_and_then, option_map}
use Rattle.ob_base.specs.Handle.{key_of}
use Rattle.ob_model.specs.declared.state.Held.{Held}
use Rattle.ob_model.specs.declared.state.Object.{Object}
use Rattle.ob_model.specs.Sound.{IsSound}
use Rattle.ob_model.specs.State.{State, body_of, held_of, object_of}
use Rattle.ob_space.proofs.Looked.{root_stands}

module _ {K T F I : Type 0} (s : State K T F I) (sound : IsSound s) (p handle : ℕ) where
  pub held_has_body : (h : Held) → Some h ≡ option_and_then (held_of s p) (key_of handle) → None ≡ body_of s h.object → ⊥
  held_has_body h found none =
      go (object_of s h.object) (root_stands s sound p (Some handle) (Some h.object) (ap (option_map (λ (x : Held). Some x.object)) (sym found))) none
    where
      go : (o : Option (Object F I)) → is_some o ≡ true → None ≡ option_map (λ x. x.body) o → ⊥
      go None stands is = cc
      go (Some x) stands is = cc
