-- One turn of a walk's loop, in each state that shows the store.
use Rattle.std.proofs.Common.{◌≡◌, ◌∙◌, ℕ, ◌==◌, ◌+◌, Bool, true, ◌&&◌, List, [], ◌∷◌, length, drop, Option, None, Some, IsSome, inl, inr, refl, ap, sym, subst, arith}
use Rattle.std.proofs.lemmas.Bool.{ne_eqb}
use Rattle.std.specs.Str.{bytes_eq}
use Rattle.ob_model.specs.Names.{separator, IsComponent, next_component, after_component}
use Rattle.ob_model.specs.State.{State, is_directory}
use Rattle.ob_model.specs.Paths.{IsMiss, InDirectory, entry}
use Rattle.ob_devmap.specs.declared.view.View.{View}
use Rattle.ob_devmap.specs.View.{IsViewOf}
use Rattle.ob_dirs.specs.declared.entry.DirEntry.{DirEntry}
use Rattle.ob_objects.specs.Store.{Entries, IsStore, Shows, directory_at}
use Rattle.ob_lookup.specs.declared.start.Standpoint.{Standpoint}
use Rattle.ob_lookup.specs.declared.start.Start.{Start}
use Rattle.ob_lookup.specs.Walk.{rest_of, directory_of, origin_at, shadow_at, object_at, place_of, text_of}
use Rattle.ob_lookup.proofs.Seen.{entry_seen, place_seen, is_directory_there}
use Rattle.ob_lookup.specs.Onward.{Led, Leads}
use Rattle.ob_lookup.proofs.Steps.{led_on, misses}

-- a text is empty where its length is nothing
pub empty_text : (xs : List ℕ) → (length xs == 0) ≡ bytes_eq xs []
empty_text [] = refl
empty_text (x ∷ xs) = ne_eqb (length (x ∷ xs)) 0 (λ e. omega (arith, e))

-- what stands behind an empty component
after_empty : (behind : List ℕ) → next_component (separator ∷ behind) ≡ [] → after_component (separator ∷ behind) ≡ behind
after_empty behind none = ap (λ (c : List ℕ). drop (1 + length c) (separator ∷ behind)) none

module _ {K T F I : Type 0} (store : Entries F I) (view : View) (start : Start) (create fold : Bool) (place : Standpoint) (dir : List DirEntry) (shadow : Option ℕ) (left : Option (List ℕ)) (behind text : List ℕ)
    (is : IsStore store) (leads : Leads K T F I store view start create fold place (rest_of left)) (inside : directory_at store (directory_of view place) ≡ Some dir)
    (beneath : shadow_at store (directory_of view place) ≡ shadow)
    (left_is : left ≡ Some behind) (text_is : text ≡ behind) where
  led_here : (s : State K T F I) (p : ℕ) → Shows s store → IsViewOf s p view → Led s p start create fold (origin_at p place) (separator ∷ text)
  led_here s p shows of =
      subst (λ (t : List ℕ). Led s p start create fold (origin_at p place) (separator ∷ t)) (sym text_is)
      (subst (λ (l : Option (List ℕ)). Led s p start create fold (origin_at p place) (rest_of l)) left_is (leads s p shows of))

  inside_here : (s : State K T F I) → Shows s store → is_directory s (directory_of view place) ≡ true
  inside_here s shows = is_directory_there s store shows (directory_of view place) dir inside

  -- there is no component
  pub stops_empty : (component text' : List ℕ) (last : Bool) (id : ℕ) → id ≡ directory_of view place → component ≡ [] → next_component (separator ∷ text) ≡ [] → text' ≡ behind
      → last ≡ (length text' == 0) → (s : State K T F I) (p : ℕ) → Shows s store → IsViewOf s p view → IsMiss s (place_of p start) (text_of start) create fold id component last
  stops_empty component text' last id there empty none same is_last s p shows of =
      misses s p start create fold (origin_at p place) id text component last (place_seen s p view of place ∙ sym there) (led_here s p shows of)
      (ap (is_directory s) there ∙ inside_here s shows) (empty ∙ sym none) (inl empty)
      (is_last ∙ empty_text text' ∙ ap (λ (t : List ℕ). bytes_eq t []) (same ∙ sym text_is ∙ sym (after_empty text none)))

  -- the component names nothing
  pub stops_absent : (name rest component : List ℕ) (named : Option ℕ) (last own : Bool) (id : ℕ) → id ≡ directory_of view place → IsSome (directory_at store view.global)
      → name ≡ next_component (separator ∷ text) → rest ≡ after_component (separator ∷ text)
      → own ≡ (last && create) → named ≡ object_at store view place dir shadow name own fold → named ≡ None → component ≡ name → last ≡ (length rest == 0)
      → (s : State K T F I) (p : ℕ) → Shows s store → IsViewOf s p view → IsMiss s (place_of p start) (text_of start) create fold id component last
  stops_absent name rest component named last own id there global next after flag found none same is_last s p shows of =
      misses s p start create fold (origin_at p place) id text component last (place_seen s p view of place ∙ sym there) (led_here s p shows of)
      (ap (is_directory s) there ∙ inside_here s shows) (same ∙ next)
      (inr ((λ i. entry s (origin_at p place) (same i) ((sym flag) i) fold)
      ∙ entry_seen s p view of store place dir shadow name own fold named shows is inside beneath global found ∙ none))
      (is_last ∙ empty_text rest ∙ ap (λ (t : List ℕ). bytes_eq t []) after)

  -- it names an object
  pub goes_on : (name rest : List ℕ) (last own : Bool) (named : Option ℕ) (object : ℕ) → IsSome (directory_at store view.global) → IsComponent name
      → name ≡ next_component (separator ∷ text) → rest ≡ after_component (separator ∷ text) → last ≡ (length rest == 0)
      → own ≡ (last && create) → named ≡ object_at store view place dir shadow name own fold → named ≡ Some object
      → (s : State K T F I) (p : ℕ) → Shows s store → IsViewOf s p view → Led s p start create fold (InDirectory object) rest
  goes_on name rest last own named object global component next after is_last flag found some s p shows of =
      led_on s p start create fold (origin_at p place) text name rest object (led_here s p shows of)
      (ap (is_directory s) (place_seen s p view of place) ∙ inside_here s shows) component next after
      (ap (λ (b : Bool). entry s (origin_at p place) name b fold) (sym (flag ∙ ap (λ (b : Bool). b && create) (is_last ∙ empty_text rest)))
      ∙ entry_seen s p view of store place dir shadow name own fold named shows is inside beneath global found ∙ some)
