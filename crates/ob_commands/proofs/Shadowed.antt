-- The handle to a shadow: what was judged of it, and what a create does then.
use Rattle.std.proofs.Common.{◌≡◌, ◌∙◌, ℕ, Bool, true, false, not, ◌||◌, List, [], ◌∷◌, Option, None, Some, refl, ap, sym, subst}
use Rattle.std.specs.Prelude.{MatchOption, option_map, is_some}
use Rattle.std.specs.Option.{option_and_then, option_map_or}
use Rattle.ob_base.specs.Handle.{key_of}
use Rattle.ob_base.specs.declared.status.Status.{Status}
use Rattle.ob_base.specs.declared.status.Status.TheVariants.{InvalidHandle, InvalidParameter, ObjectTypeMismatch}
use Rattle.ob_model.specs.declared.reply.Answer.{Answer}
use Rattle.ob_model.specs.declared.state.Held.{Held}
use Rattle.ob_model.specs.declared.state.Object.{Object}
use Rattle.ob_model.specs.State.{State, is_directory, shadow_in, shadow_of, object_of, held_of}
use Rattle.ob_model.specs.Grants.{first_refusal}
use Rattle.ob_model.specs.Refusals.{IsRefused, Unless}
use Rattle.ob_model.specs.declared.command.Place.TheVariants as place
use Rattle.ob_model.specs.Creates.{Making, Creates, Makes, create_mode}
use Rattle.ob_model.specs.Looks.{Look, LooksUp, most_reparses}
use Rattle.ob_model.specs.Procedures.{Procedures}
use Rattle.ob_model.specs.Step.{CreatesIn, WithShadow, shadow_refusals}
use Rattle.ob_space.specs.Early.{is_shadow_refused}
use Rattle.ob_space.specs.Roots.{root_of}
use Rattle.ob_space.proofs.Naming.{with_root_done}
use Rattle.ob_space.proofs.Stepping.{is_done}
use Rattle.ob_commands.specs.Shadows.{shadow_refusal}

module _ {K T F I : Type 0} (s : State K T F I) (p : ℕ) where
  -- the refusal of what a handle leads to, where it leads somewhere
  abbrev judged : Option Held → Option Status
  judged held = option_map_or (λ object. option_and_then (λ o. first_refusal (shadow_refusals s o)) object) (option_map (λ h. Some h.object) held) (Some InvalidHandle)

  module _ (t : State K T F I) (answer : Answer) where
    -- what is done with a shadow that is fit
    pub with_shadow_done : (shadow d : Option ℕ) → root_of s p shadow ≡ Some d → shadow_refusal s p shadow ≡ None
        → (Does : Option ℕ → Type 0) → Does d → WithShadow s p shadow answer t Does
    with_shadow_done None d leads fit Does does = let is : None ≡ d = cc in subst Does (sym is) does
    with_shadow_done (Some handle) d leads fit Does does = go (option_and_then (held_of s p) (key_of handle)) leads fit
      where
        go : (held : Option Held) → option_map (λ h. Some h.object) held ≡ Some d → judged held ≡ None
            → MatchOption held (IsRefused s InvalidHandle answer t) (λ h. Unless (shadow_refusals s h.object) s answer t (Does (Some h.object)))
        go None leads fit = cc
        go (Some h) leads fit =
            let is : Some h.object ≡ d = cc in
            is_done (shadow_refusals s h.object) s answer t (Does (Some h.object)) fit (subst Does (sym is) does)

    -- a shadow that is refused
    pub with_shadow_refused : (shadow : Option ℕ) (status : Status) → shadow_refusal s p shadow ≡ Some status → IsRefused s status answer t
        → (Does : Option ℕ → Type 0) → WithShadow s p shadow answer t Does
    with_shadow_refused None status is refused Does = let none : None ≡ Some status = is in cc
    with_shadow_refused (Some handle) status is refused Does = go (option_and_then (held_of s p) (key_of handle)) is
      where
        go : (held : Option Held) → judged held ≡ Some status
            → MatchOption held (IsRefused s InvalidHandle answer t) (λ h. Unless (shadow_refusals s h.object) s answer t (Does (Some h.object)))
        go None is = let same : InvalidHandle ≡ status = cc in subst (λ (x : Status). IsRefused s x answer t) (sym same) refused
        go (Some h) is = subst (λ (r : Option Status). MatchOption r (Does (Some h.object)) (λ told. IsRefused s told answer t)) (sym is) refused

  -- a shadow that is refused early isn't fit
  pub refused_shadow : (shadow : Option ℕ) → option_map_or (is_shadow_refused s p) shadow false ≡ true → shadow_refusal s p shadow ≡ None → ⊥
  refused_shadow None refused fit = cc
  refused_shadow (Some handle) refused fit = go (option_and_then (held_of s p) (key_of handle)) refused fit
    where
      go : (held : Option Held) → (not (is_some held) || option_map_or (λ h. not (is_directory s h.object) || is_some (shadow_of s h.object)) held false) ≡ true → judged held ≡ None → ⊥
      go None refused fit = cc
      go (Some h) refused fit = by (is_directory s h.object) (is_some (shadow_of s h.object)) refused fit
        where
          by : (a b : Bool) → (not a || b) ≡ true → first_refusal ((not a, ObjectTypeMismatch) ∷ (b, InvalidParameter) ∷ []) ≡ None → ⊥
          by false b refused fit = cc
          by true true refused fit = cc
          by true false refused fit = cc

  -- what is refused of the object that the handle leads to
  module _ (shadow : Option ℕ) (o : ℕ) (leads : root_of s p shadow ≡ Some (Some o)) where
    refusal_at : shadow_refusal s p shadow ≡ first_refusal (shadow_refusals s o)
    refusal_at = ap (λ (object : Option (Option ℕ)). option_map_or (λ (x : Option ℕ). option_and_then (λ n. first_refusal (shadow_refusals s n)) x) object (Some InvalidHandle)) leads

    abbrev refusal_by : Bool → Bool → Option Status
    refusal_by is_there has_shadow = first_refusal ((not is_there, ObjectTypeMismatch) ∷ (has_shadow, InvalidParameter) ∷ [])

    pub no_directory_refused : is_directory s o ≡ false → shadow_refusal s p shadow ≡ Some ObjectTypeMismatch
    no_directory_refused isnt = refusal_at ∙ ap (λ (b : Bool). refusal_by b (is_some (shadow_of s o))) isnt

    pub shadowed_refused : is_directory s o ≡ true → is_some (shadow_of s o) ≡ true → shadow_refusal s p shadow ≡ Some InvalidParameter
    shadowed_refused is has = refusal_at ∙ ap (λ (b : Bool). refusal_by b (is_some (shadow_of s o))) is ∙ ap (refusal_by true) has

    pub shadow_fits : is_directory s o ≡ true → is_some (shadow_of s o) ≡ false → shadow_refusal s p shadow ≡ None
    shadow_fits is hasnt = refusal_at ∙ ap (λ (b : Bool). refusal_by b (is_some (shadow_of s o))) is ∙ ap (refusal_by true) hasnt

-- an object has the shadow that the parts of a namespace show
pub shadow_shown : {K T F I : Type 0} {s t : State K T F I} → s ≡ t → (o : ℕ) (b : Bool) → b ≡ is_some (option_and_then (λ x. shadow_in x.body) (object_of s o)) → is_some (shadow_of t o) ≡ b
shadow_shown {K} {T} {F} {I} {s} {t} is o b found = sym (ap (λ (u : State K T F I). is_some (shadow_of u o)) is) ∙ sym (found ∙ go (object_of s o))
  where
    go : (x : Option (Object F I)) → is_some (option_and_then (λ y. shadow_in y.body) x) ≡ is_some (option_and_then shadow_in (option_map (λ y. y.body) x))
    go None = refl
    go (Some x) = refl

module _ {K T F I : Type 0} (g : Procedures K T F I) (s t : State K T F I) (p attrs : ℕ) (shadow : Option ℕ) (making : Option ℕ → Making K) (answer : Answer) where
  -- a create at a name whose shadow is refused
  pub create_refused : (root at : Option ℕ) → root_of s p root ≡ Some at → (name : List ℕ) (status : Status) → shadow_refusal s p shadow ≡ Some status → IsRefused s status answer t
      → CreatesIn g s p (place.At root name) attrs shadow making answer t
  create_refused root at rooted name status is refused =
      with_root_done s t p answer (λ o. WithShadow s p shadow answer t (Does o)) root at rooted (with_shadow_refused s p t answer shadow status is refused (Does at))
    where
      Does : Option ℕ → Option ℕ → Type 0
      Does o d = (look : Look) × LooksUp g s p (create_mode attrs) most_reparses o name look × Creates g s p attrs (making d) look answer t

  -- a create without a name whose shadow is fit
  pub unnamed_created : (d : Option ℕ) → root_of s p shadow ≡ Some d → shadow_refusal s p shadow ≡ None → Makes g s p attrs (making d) None answer t
      → CreatesIn g s p place.Unnamed attrs shadow making answer t
  unnamed_created d leads fit made = with_shadow_done s p t answer shadow d leads fit (λ o. Makes g s p attrs (making o) None answer t) made

  -- or is refused
  pub unnamed_refused : (status : Status) → shadow_refusal s p shadow ≡ Some status → IsRefused s status answer t → CreatesIn g s p place.Unnamed attrs shadow making answer t
  unnamed_refused status is refused = with_shadow_refused s p t answer shadow status is refused (λ o. Makes g s p attrs (making o) None answer t)
