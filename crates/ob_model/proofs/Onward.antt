-- A lookup one step at a time, as a loop over a text goes: the next component, the walk from a
-- place, and the reparses.
use Rattle.std.proofs.Common.{◌≡◌, ◌≢◌, ◌⊎◌, ℕ, zero, suc, Bool, true, false, ◌&&◌, nat_lt, List, [], ◌∷◌, ◌++◌, length, None, Some, bytes_eq, refl, sym, ap, ◌∙◌, subst, append_assoc, append-nil}
use Rattle.std.proofs.lemmas.List.Elements.{All-push}
use Rattle.ob_base.specs.declared.status.Status.TheVariants.{ReparseLimit}
use Rattle.ob_model.specs.Names.{separator, joined, IsComponent, IsSplit, next_component, after_component, longest_name, substituted}
use Rattle.ob_model.specs.State.{State, is_directory}
use Rattle.ob_model.specs.Paths.{Origin, InDirectory, IsPath, directory_at, entry, place_behind, is_none_left, origin_of}
use Rattle.ob_model.specs.Procedures.{Procedures}
use Rattle.ob_model.specs.declared.terms.Mode.{Mode}
use Rattle.ob_model.specs.Looks.{Look, Refused, Missed, Reached, Over, Follow}
use Rattle.ob_model.proofs.Components.{rest_in_parts, after_component-is_rest, next_component-is_component, length-after_component}
use Rattle.ob_model.proofs.Walk.{walked, walk-nil, walk-closed, walk-missed, walk-found, walk-enough, place_behind-in_directory}
use Rattle.ob_model.proofs.Lookup.{looked_up, looked_again, next_of}

-- ---- splits

-- one more component at the end
pub joined-push : (cs : List (List ℕ)) (c : List ℕ) → joined (cs ++ c ∷ []) ≡ joined cs ++ (separator ∷ c)
joined-push [] c = append-nil (separator ∷ c)
joined-push (d ∷ cs) c = ap (λ (x : List ℕ). (separator ∷ d) ++ x) (joined-push cs c) ∙ sym (append_assoc (separator ∷ d) (joined cs) (separator ∷ c))

-- a split goes on with the next component of its rest
pub IsSplit-push : (text : List ℕ) (cs : List (List ℕ)) (b : ℕ) (bs : List ℕ)
    → IsSplit text cs (b ∷ bs) → next_component (b ∷ bs) ≢ [] → IsSplit text (cs ++ next_component (b ∷ bs) ∷ []) (after_component (b ∷ bs))
IsSplit-push text cs b bs split some = record {
  each = All-push IsComponent cs (next_component (b ∷ bs)) split.each (next_component-is_component b bs some);
  whole =
      split.whole ∙ ap (λ (x : List ℕ). joined cs ++ x) (rest_in_parts b bs split.bounded)
      ∙ sym (append_assoc (joined cs) (separator ∷ next_component (b ∷ bs)) (after_component (b ∷ bs)))
      ∙ ap (λ (x : List ℕ). x ++ after_component (b ∷ bs)) (sym (joined-push cs (next_component (b ∷ bs))));
  bounded = after_component-is_rest b bs;
}

-- none but the last component is asked for in another way
pushed_flag : (cs : List (List ℕ)) (c : List ℕ) (own : Bool) → (is_none_left (cs ++ c ∷ []) && own) ≡ (is_none_left cs && false)
pushed_flag [] c own = refl
pushed_flag (b ∷ cs) c own = refl

module _ {K T F I : Type 0} where
  -- ---- paths

  -- a path that leads to a directory goes on with what a component names there
  pub IsPath-push : (s : State K T F I) (place : Origin) (cs : List (List ℕ)) (c : List ℕ) (own fold : Bool) (d m : ℕ)
      → IsPath s place cs false fold d → is_directory s d ≡ true → entry s (place_behind place cs d) c own fold ≡ Some m → IsPath s place (cs ++ c ∷ []) own fold m
  IsPath-push s place [] c own fold d m path dir named = (m, subst (λ (x : ℕ). is_directory s x ≡ true) path dir, named, refl)
  IsPath-push s place (b ∷ cs) c own fold d m path dir named = (
    path.0,
    path.1,
    ap (λ (x : Bool). entry s place b x fold) (pushed_flag cs c own) ∙ path.2,
    IsPath-push s (InDirectory path.0) cs c own fold d m path.3 dir (subst (λ (x : Origin). entry s x c own fold ≡ Some m) (sym (place_behind-in_directory s path.0 cs false fold d path.3)) named),
  )

  -- ---- the walk, at a place with the text that is left

  -- nothing is left
  pub walked-nil : (s : State K T F I) (place : Origin) (create fold : Bool) → walked s place [] create fold ≡ Reached (directory_at s place) []
  walked-nil s place create fold = walk-nil zero s place create fold

  -- the place is no directory
  pub walked-closed : (s : State K T F I) (place : Origin) (text : List ℕ) (create fold : Bool) → is_directory s (directory_at s place) ≡ false → walked s place text create fold ≡ Reached (directory_at s place) text
  walked-closed s place text create fold e = walk-closed (length text) s place text create fold e

  -- the next component is empty, or names nothing
  pub walked-missed : (s : State K T F I) (place : Origin) (b : ℕ) (bs : List ℕ) (create fold : Bool)
      → is_directory s (directory_at s place) ≡ true → (next_component (b ∷ bs) ≡ []) ⊎ (entry s place (next_component (b ∷ bs)) (bytes_eq (after_component (b ∷ bs)) [] && create) fold ≡ None)
      → walked s place (b ∷ bs) create fold ≡ Missed (directory_at s place) (next_component (b ∷ bs)) (bytes_eq (after_component (b ∷ bs)) [])
  walked-missed s place b bs create fold e none = walk-missed (length bs) s place b bs create fold e none

  -- it names an object
  pub walked-found : (s : State K T F I) (place : Origin) (b : ℕ) (bs : List ℕ) (create fold : Bool) (m : ℕ)
      → is_directory s (directory_at s place) ≡ true → next_component (b ∷ bs) ≢ [] → entry s place (next_component (b ∷ bs)) (bytes_eq (after_component (b ∷ bs)) [] && create) fold ≡ Some m
      → walked s place (b ∷ bs) create fold ≡ walked s (InDirectory m) (after_component (b ∷ bs)) create fold
  walked-found s place b bs create fold m e some named =
      walk-found (length bs) s place b bs create fold m e some named ∙ walk-enough (length bs) s (InDirectory m) (after_component (b ∷ bs)) create fold (length-after_component b bs)

module _ {K T F I : Type 0} (g : Procedures K T F I) (s : State K T F I) (p : ℕ) (mode : Mode) where
  -- ---- the lookup, with the reparses that are left

  -- it is over where the walk stops
  pub looked_up-over : (n : ℕ) (place : Origin) (text : List ℕ) (look : Look) → next_of g s mode n (walked s place text mode.create mode.fold) ≡ Over look → looked_up g s p mode n place text ≡ look
  unfolding looked_up
  looked_up-over zero place text look e = rw e refl
  looked_up-over (suc n) place text look e = rw e refl

  -- a link is to be followed, and no reparse is left
  pub looked_up-limit : (place : Origin) (text target rest : List ℕ) → next_of g s mode zero (walked s place text mode.create mode.fold) ≡ Follow target rest → looked_up g s p mode zero place text ≡ Refused ReparseLimit
  unfolding looked_up
  looked_up-limit place text target rest e = rw e refl

  -- a link is to be followed: by what its target and the rest make
  pub looked_up-follow : (n : ℕ) (place : Origin) (text target rest : List ℕ) → next_of g s mode (suc n) (walked s place text mode.create mode.fold) ≡ Follow target rest
      → looked_up g s p mode (suc n) place text
      ≡ looked_again (nat_lt longest_name (length (substituted target rest))) (origin_of s p mode.create (substituted target rest)) (λ at. looked_up g s p mode n at.0 at.1)
  unfolding looked_up
  looked_up-follow n place text target rest e = rw e refl
