-- Lookups of the core: the store is closed, and the object of a root handle is there.
use Rattle.std.proofs.Common.{◌≡◌, ℕ, suc, ◌+◌, ◌≤◌, ◌==◌, Bool, true, false, ◌&&◌, cond, List, [], ◌∷◌, length, refl, sym, subst, arith}
use Rattle.std.specs.Prelude.{Option, None, Some, IsSome, All, MatchBool}
use Rattle.std.specs.List.{find}
use Rattle.std.specs.Option.{option_and_then, option_map, is_some}
use Rattle.std.proofs.lemmas.Bool.{le-ltb}
use Rattle.ob_base.specs.Handle.{key_of}
use Rattle.ob_base.specs.declared.status.Status.TheVariants.{NameTooLong}
use Rattle.ob_model.specs.declared.state.Object.{Object}
use Rattle.ob_model.specs.declared.state.Held.{Held}
use Rattle.ob_model.specs.State.{State, held_of, object_of}
use Rattle.ob_model.specs.Procedures.{Procedures}
use Rattle.ob_model.specs.Sound.{IsSound, Stands}
use Rattle.ob_model.specs.declared.terms.Mode.{Mode}
use Rattle.ob_model.specs.Looks.{Look, At, Vacant, Parse, Refused, LooksUp}
use Rattle.ob_model.specs.Names.{longest_name}
use Rattle.ob_model.specs.Parses.{LooksAgain}
use Rattle.ob_model.proofs.Vacant.{IsUsableEnd}
use Rattle.ob_objects.specs.declared.object.StoredObject.{StoredObject}
use Rattle.ob_objects.specs.Store.{Entries, stored_at, object_of_stored}
use Rattle.ob_lookup.specs.Closed.{IsRootThere}
use Rattle.ob_space.specs.Looking.{IsRoot, IsUsable}
use Rattle.ob_space.specs.Roots.{root_of}

-- an object that stands is stored
stored : {F I : Type 0} (o : Option (Object F I)) (x : Option (StoredObject F I)) (id : ℕ) → o ≡ option_map (object_of_stored id) x → is_some o ≡ true → IsSome x
stored o None id e h = let none : o ≡ None = e in cc
stored o (Some x) id e h = refl

module _ {K T F I : Type 0} (s : State K T F I) where
  -- the object of a root handle that is there is stored
  pub root_there : (store : Entries F I) → ((id : ℕ) → object_of s id ≡ option_map (object_of_stored id) (stored_at store id)) → (root : Option ℕ) → IsRoot s root → IsRootThere store root
  root_there store is None h = tt
  root_there store is (Some id) h = stored (object_of s id) (stored_at store id) id (is id) h

  -- the end of a lookup is good for what the core does with it
  pub usable : (g : Procedures K T F I) (mode : Mode) (look : Look) → IsUsableEnd g s mode look → IsUsable g s mode look
  usable g mode (At o) h = tt
  usable g mode (Vacant d c) h = (h.0, (h.1, (mode.fold, h.2)))
  usable g mode (Parse o rest n) h = h
  usable g mode (Refused status) h = tt

  -- a handle that is found leads to an object that stands
  found_stands : (test : Held → Bool) (hs : List Held) → All (λ h. Stands s h.object) hs → (o : Option Held) → find test hs ≡ o → IsRoot s (option_map (λ h. h.object) o)
  found_stands test [] all None e = tt
  found_stands test [] all (Some h) e = cc
  found_stands test (x ∷ xs) all o e = go (test x) e (found_stands test xs (λ k d below. all (suc k) d (omega (arith, below))))
    where
      go : (b : Bool) → cond b (Some x) (find test xs) ≡ o → ((p : Option Held) → find test xs ≡ p → IsRoot s (option_map (λ h. h.object) p)) → IsRoot s (option_map (λ h. h.object) o)
      go true e rest = subst (λ (p : Option Held). IsRoot s (option_map (λ h. h.object) p)) e (all 0 x (omega arith))
      go false e rest = rest o e

  -- so does a root handle that is told
  pub root_stands : IsSound s → (p : ℕ) (root at : Option ℕ) → root_of s p root ≡ Some at → IsRoot s at
  root_stands sound p None at e = let is : None ≡ at = cc in subst (IsRoot s) is tt
  root_stands sound p (Some handle) at e = go (option_and_then (held_of s p) (key_of handle)) (stands (key_of handle)) e
    where
      stands : (key : Option ℕ) → IsRoot s (option_map (λ h. h.object) (option_and_then (held_of s p) key))
      stands None = tt
      stands (Some value) = found_stands (λ h. (h.process == p) && (h.value == value)) s.handles sound.handles.standing (held_of s p value) refl

      go : (o : Option Held) → IsRoot s (option_map (λ h. h.object) o) → option_map (λ h. Some h.object) o ≡ Some at → IsRoot s at
      go None there e = cc
      go (Some h) there e = let is : Some h.object ≡ at = cc in subst (IsRoot s) is there

-- a text that is no longer than a name is looked up again as a name is, with one reparse less
module _ {K T F I : Type 0} (g : Procedures K T F I) (s : State K T F I) (p : ℕ) (mode : Mode) (text : List ℕ) (look : Look) where
  pub looks_again : (n m : ℕ) → n ≡ m + 1 → length text ≤ longest_name → LooksUp g s p mode m None text look → LooksAgain g s p mode n text look
  looks_again n m is short up =
      let next : n ≡ suc m = omega (arith, is) in
      subst (λ k. LooksAgain g s p mode k text look) (sym next)
      (subst (λ long. MatchBool long (look ≡ Refused NameTooLong) (LooksUp g s p mode m None text look)) (sym (le-ltb longest_name (length text) short)) up)

-- the same state is sound
pub same_sound : {K T F I : Type 0} (s t : State K T F I) → IsSound s → t ≡ s → IsSound t
same_sound s t sound same = subst IsSound (sym same) sound
