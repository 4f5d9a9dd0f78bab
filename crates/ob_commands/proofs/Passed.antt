-- A command that wants memory isn't one that is refused at the object of its handle.
use Rattle.std.proofs.Common.{◌≡◌, ◌∙◌, ℕ, Bool, true, false, not, List, Option, None, Some, ap, refl, sym}
use Rattle.std.specs.Option.{option_and_then, option_map_or}
use Rattle.ob_base.specs.Handle.{key_of}
use Rattle.ob_model.specs.declared.state.Body.{Body}
use Rattle.ob_model.specs.declared.state.Body.TheVariants as body
use Rattle.ob_model.specs.declared.state.Held.{Held}
use Rattle.ob_model.specs.declared.state.Wanted.TheVariants.{Link}
use Rattle.ob_model.specs.Naming.{target_of}
use Rattle.ob_model.specs.Procedures.{Procedures}
use Rattle.ob_model.specs.State.{State, body_of, held_of}
use Rattle.ob_model.specs.Types.{is_wanted, is_wanted_at}
use Rattle.ob_space.specs.Found.{at_handle}
use Rattle.ob_space.proofs.InPlace.{not_true}

module _ {K T F I : Type 0} (s : State K T F I) (p handle : ℕ) (held : Held) (found : Some held ≡ option_and_then (held_of s p) (key_of handle)) where
  -- what doesn't hold of the handle is no reason
  pub passes_handle : (fact : Held → Bool) → fact held ≡ false → at_handle s p handle fact ≡ true → ⊥
  passes_handle fact holds_not refused = not_true (sym holds_not ∙ ap (λ (o : Option Held). option_map_or fact o false) found ∙ refused)

-- what has a target is a link
pub link_wanted : {K T F I : Type 0} (g : Procedures K T F I) (s : State K T F I) (o : ℕ) (target : List ℕ) → option_and_then target_of (body_of s o) ≡ Some target
    → not (is_wanted_at g s o Link) ≡ false
link_wanted g s o target is = go (body_of s o) is
  where
    go : (x : Option (Body _ _)) → option_and_then target_of x ≡ Some target → not (option_map_or (is_wanted g Link) x false) ≡ false
    go None is = let none : None ≡ Some target = is in cc
    go (Some (body.Directory shadow)) is = let none : None ≡ Some target = is in cc
    go (Some (body.Link text)) is = refl
    go (Some (body.Other face inner)) is = let none : None ≡ Some target = is in cc
