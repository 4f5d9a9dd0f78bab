-- The steps of a walk: it begins, goes on by a component, misses one, and reaches an object.
use Rattle.std.proofs.Common.{◌≡◌, ◌≢◌, ◌⊎◌, ℕ, Bool, true, false, ◌&&◌, List, [], ◌∷◌, ◌++◌, Option, None, Some, inl, inr, refl, ap, sym, ◌∙◌, subst}
use Rattle.std.specs.Str.{bytes_eq}
use Rattle.ob_model.specs.Names.{separator, IsComponent, IsRest, IsSplit, next_component, after_component}
use Rattle.ob_model.specs.State.{State, is_directory}
use Rattle.ob_model.specs.Paths.{Origin, InDirectory, ViewOf, IsPath, IsReach, IsMiss, entry, place_behind}
use Rattle.ob_model.specs.Paths as paths
use Rattle.ob_model.proofs.Components.{IsSplit-nil}
use Rattle.ob_model.proofs.Onward.{IsSplit-push, IsPath-push}
use Rattle.ob_lookup.specs.declared.start.Start.{Start}
use Rattle.ob_lookup.specs.Onward.{Led}
use Rattle.ob_lookup.specs.Walk.{rest_of, place_of, text_of}

-- what is left of a text is a rest
pub rest_of-IsRest : (left : Option (List ℕ)) → IsRest (rest_of left)
rest_of-IsRest None = tt
rest_of-IsRest (Some behind) = refl

-- behind a component the place is a directory
behind_one : (place : Origin) (cs : List (List ℕ)) (c : List ℕ) (d : ℕ) → place_behind place (cs ++ c ∷ []) d ≡ InDirectory d
behind_one place [] c d = refl
behind_one place (x ∷ cs) c d = refl

module _ {K T F I : Type 0} (s : State K T F I) (p : ℕ) (start : Start) (create fold : Bool) where
  -- no component leads to the start
  pub led_start : Led s p start create fold (place_of p start) (text_of start)
  led_start = ([], IsSplit-nil (text_of start) (rest_of-IsRest start.behind), refl, refl)

  -- the components so far with the next one, and what stands behind it
  split_on : (cs : List (List ℕ)) (behind name after : List ℕ) → IsSplit (text_of start) cs (separator ∷ behind) → IsComponent name
      → name ≡ next_component (separator ∷ behind) → after ≡ after_component (separator ∷ behind) → IsSplit (text_of start) (cs ++ name ∷ []) after
  split_on cs behind name after split component next left =
      let some : next_component (separator ∷ behind) ≢ [] = subst (λ (c : List ℕ). c ≢ []) next component.0 in
      subst (λ (c : List ℕ). IsSplit (text_of start) (cs ++ c ∷ []) after) (sym next)
      (subst (λ (r : List ℕ). IsSplit (text_of start) (cs ++ next_component (separator ∷ behind) ∷ []) r) (sym left)
      (IsSplit-push (text_of start) cs separator behind split some))

  -- the walk goes on to what a component names
  pub led_on : (place : Origin) (behind name after : List ℕ) (object : ℕ) → Led s p start create fold place (separator ∷ behind)
      → is_directory s (paths.directory_at s place) ≡ true → IsComponent name
      → name ≡ next_component (separator ∷ behind) → after ≡ after_component (separator ∷ behind)
      → entry s place name (bytes_eq after [] && create) fold ≡ Some object → Led s p start create fold (InDirectory object) after
  led_on place behind name after object led inside component next left named = (
    led.0 ++ name ∷ [],
    split_on led.0 behind name after led.1 component next left,
    IsPath-push s (place_of p start) led.0 name (bytes_eq after [] && create) fold (paths.directory_at s place) object led.2 inside
        (subst (λ (o : Origin). entry s o name (bytes_eq after [] && create) fold ≡ Some object) (sym led.3) named),
    behind_one (place_of p start) led.0 name object,
  )

  -- it misses a component that is empty, or names nothing
  pub misses : (place : Origin) (id : ℕ) (behind component : List ℕ) (last : Bool) → paths.directory_at s place ≡ id → Led s p start create fold place (separator ∷ behind)
      → is_directory s id ≡ true → component ≡ next_component (separator ∷ behind) → (component ≡ []) ⊎ (entry s place component (last && create) fold ≡ None)
      → last ≡ bytes_eq (after_component (separator ∷ behind)) [] → IsMiss s (place_of p start) (text_of start) create fold id component last
  misses place id behind component last is led inside next none is_last =
      subst (λ (d : ℕ). IsMiss s (place_of p start) (text_of start) create fold d component last) is
      (led.0, separator ∷ behind, led.1, (λ e. cc), led.2, ap (is_directory s) is ∙ inside, next, at_place none, is_last)
    where
      at_place : (component ≡ []) ⊎ (entry s place component (last && create) fold ≡ None)
          → (component ≡ []) ⊎ (entry s (place_behind (place_of p start) led.0 (paths.directory_at s place)) component (last && create) fold ≡ None)
      at_place (inl e) = inl e
      at_place (inr e) = inr (subst (λ (o : Origin). entry s o component (last && create) fold ≡ None) (sym led.3) e)

  -- it reaches an object that is no directory, or a directory with nothing left
  pub reaches : (place : Origin) (id : ℕ) (rest : List ℕ) → paths.directory_at s place ≡ id → Led s p start create fold place rest
      → (is_directory s id ≡ false) ⊎ (rest ≡ []) → IsReach s (place_of p start) (text_of start) create fold id rest
  reaches place id rest is led ends = (led.0, led.1, subst (λ (d : ℕ). IsPath s (place_of p start) led.0 (bytes_eq rest [] && create) fold d) is led.2, ends)
