-- What the state has of an object, told from what its store has under the number.
use Rattle.std.proofs.Common.{◌≡◌, ℕ, false, List, refl, ap, ◌∙◌, sym}
use Rattle.std.specs.Prelude.{Option, None, Some}
use Rattle.std.specs.Option.{option_map, option_map_or, option_and_then}
use Rattle.ob_model.specs.declared.state.Body.{Body}
use Rattle.ob_model.specs.declared.state.Object.{Object}
use Rattle.ob_model.specs.declared.state.Wanted.{Wanted}
use Rattle.ob_model.specs.State.{State, body_of}
use Rattle.ob_model.specs.Grants.{is_exclusive}
use Rattle.ob_model.specs.Procedures.{Procedures}
use Rattle.ob_model.specs.Types.{is_wanted, is_wanted_at}
use Rattle.ob_model.specs.Naming.{target_of}
use Rattle.ob_objects.specs.declared.object.StoredBody.{StoredBody}
use Rattle.ob_objects.specs.declared.object.StoredBody.TheVariants.{Directory, Link, Other}
use Rattle.ob_objects.specs.declared.object.StoredObject.{StoredObject}
use Rattle.ob_objects.specs.Store.{Entries, Shows, stored_at, body_of_stored, object_of_stored}
use Rattle.ob_objects.proofs.Shown.{stored_is_object}

module _ {K T F I : Type 0} (s : State K T F I) (store : Entries F I) (shows : Shows s store) (id : ℕ) (x : Option (StoredObject F I)) (got : x ≡ stored_at store id) where
  stored_body : (x : Option (StoredObject F I)) → option_map (λ y. y.body) (option_map (object_of_stored id) x) ≡ option_map (λ y. body_of_stored y.body) x
  stored_body None = refl
  stored_body (Some y) = refl

  -- its body
  pub body_is : body_of s id ≡ option_map (λ y. body_of_stored y.body) x
  body_is = ap (option_map (λ y. y.body)) (stored_is_object s store shows id ∙ ap (option_map (object_of_stored id)) (sym got)) ∙ stored_body x

  -- whether it is of the type that is asked for
  pub wanted_is : (g : Procedures K T F I) (wanted : Wanted K) → is_wanted_at g s id wanted ≡ option_map_or (is_wanted g wanted) (option_map (λ y. body_of_stored y.body) x) false
  wanted_is g wanted = ap (λ (body : Option (Body F I)). option_map_or (is_wanted g wanted) body false) body_is

  stored_flag : (x : Option (StoredObject F I)) → option_map_or (λ (y : Object F I). y.exclusive) (option_map (object_of_stored id) x) false ≡ option_map_or (λ y. y.exclusive) x false
  stored_flag None = refl
  stored_flag (Some y) = refl

  -- whether it is exclusive
  pub exclusive_is : is_exclusive s id ≡ option_map_or (λ y. y.exclusive) x false
  exclusive_is = ap (λ (y : Option (Object F I)). option_map_or (λ z. z.exclusive) y false) (stored_is_object s store shows id ∙ ap (option_map (object_of_stored id)) (sym got)) ∙ stored_flag x

  -- its target
  pub target_is : option_and_then target_of (body_of s id) ≡ option_and_then target_of (option_map (λ y. body_of_stored y.body) x)
  target_is = ap (option_and_then target_of) body_is

-- what is no link has no target
pub no_target : {F I : Type 0} (body : StoredBody F I) → ((target : List ℕ) → body ≡ Link target → ⊥) → option_and_then target_of (option_map (λ (y : StoredBody F I). body_of_stored y) (Some body)) ≡ None
no_target (Directory entries shadow) other = refl
no_target (Link target) other = absurd (other target refl)
no_target (Other face inner) other = refl
