-- The object of a handle that a reader gives is there.
use Rattle.std.proofs.Common.{◌≡◌, ℕ, Bool, ◌==◌, ◌&&◌, nat_lt, true, Option, None, Some, find, refl, sym}
use Rattle.std.specs.Prelude.{option_map, IsSome}
use Rattle.std.specs.Option.{is_some, option_and_then}
use Rattle.ob_core.specs.Listed.{handle_after}
use Rattle.ob_model.specs.declared.state.Held.{Held}
use Rattle.ob_model.specs.declared.state.Object.{Object}
use Rattle.ob_model.specs.Sound.{IsSound, Stands}
use Rattle.ob_model.specs.State.{State, body_of, held_of, object_of}
use Rattle.ob_model.proofs.SoundPaths.{find_of, of_some}

module _ {K T F I : Type 0} (s : State K T F I) (sound : IsSound s) where
  pub has_body : (o : ℕ) → Stands s o → IsSome (body_of s o)
  has_body o stands = go (object_of s o) stands
    where
      go : (x : Option (Object F I)) → is_some x ≡ true → IsSome (option_map (λ y. y.body) x)
      go None none = cc
      go (Some x) some = refl

  -- a handle that is found among those of the state
  found_has_body : (test : Held → Bool) (h : Held) → find test s.handles ≡ Some h → IsSome (body_of s h.object)
  found_has_body test h found =
      has_body h.object (of_some (λ k. Stands s k.object) (find test s.handles) h found (find_of (λ k. Stands s k.object) test s.handles sound.handles.standing))

  pub next_has_body : (p order : ℕ) (h : Held) → Some h ≡ handle_after s p order → IsSome (body_of s h.object)
  next_has_body p order h found = found_has_body (λ k. k.process == p && nat_lt order k.order) h (sym found)

  pub handle_has_body : (p : ℕ) (key : Option ℕ) (h : Held) → Some h ≡ option_and_then (held_of s p) key → IsSome (body_of s h.object)
  handle_has_body p None h found = let none : Some h ≡ None = found in cc
  handle_has_body p (Some value) h found = found_has_body (λ k. k.process == p && k.value == value) h (sym found)
