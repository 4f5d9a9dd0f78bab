-- The walk over a text, computed: where it stops, that this is a stop, and that there is no other.
use Rattle.std.proofs.Common.{◌≡◌, ◌≢◌, ◌⊎◌, ℕ, zero, suc, ◌≤◌, Bool, true, false, ◌&&◌, List, [], ◌∷◌, ◌++◌, length, All, Option, None, Some, bytes_eq, inl, inr, refl, sym, ap, ◌∙◌, subst, arith, length-append, append_assoc, le_refl}
use Rattle.std.proofs.lemmas.List.Elements.{All-head, All-tail}
use Rattle.ob_model.specs.Names.{separator, joined, IsComponent, IsRest, next_component, after_component}
use Rattle.ob_model.specs.State.{State, is_directory}
use Rattle.ob_model.specs.Paths.{Origin, InDirectory, IsPath, IsReach, IsMiss, directory_at, entry, place_behind, is_none_left}
use Rattle.ob_model.specs.Looks.{Stop, Missed, Reached, IsStop}
use Rattle.ob_model.proofs.Components.{next_component-joined, after_component-joined, rest_in_parts, after_component-is_rest, next_component-is_component, length-after_component, IsSplit-cons, IsSplit-nil, IsRest-joined}

-- one step of a walk at the directory d, given whether it is one, the next component, whether that
-- is the last, what it names there, and how the walk goes on
abbrev pub walk_step : Bool → ℕ → List ℕ → List ℕ → Bool → Option ℕ → (ℕ → Stop) → Stop
walk_step false d text c last named onward = Reached d text
walk_step true d text [] last named onward = Missed d [] last
walk_step true d text (b ∷ bs) last None onward = Missed d (b ∷ bs) last
walk_step true d text (b ∷ bs) last (Some m) onward = onward m

walk_step-closed : (t : Bool) (d : ℕ) (text c : List ℕ) (last : Bool) (named : Option ℕ) (onward : ℕ → Stop) → t ≡ false → walk_step t d text c last named onward ≡ Reached d text
walk_step-closed t d text c last named onward e = rw e refl

walk_step-empty : (t : Bool) (d : ℕ) (text c : List ℕ) (last : Bool) (named : Option ℕ) (onward : ℕ → Stop) → t ≡ true → c ≡ [] → walk_step t d text c last named onward ≡ Missed d c last
walk_step-empty t d text c last named onward e f = rw (e, f) refl

walk_step-absent : (t : Bool) (d : ℕ) (text c : List ℕ) (last : Bool) (named : Option ℕ) (onward : ℕ → Stop) → t ≡ true → named ≡ None → walk_step t d text c last named onward ≡ Missed d c last
walk_step-absent t d text [] last named onward e f = rw e refl
walk_step-absent t d text (b ∷ bs) last named onward e f = rw (e, f) refl

walk_step-onward : (t : Bool) (d : ℕ) (text c : List ℕ) (last : Bool) (named : Option ℕ) (onward : ℕ → Stop) (m : ℕ) → t ≡ true → c ≢ [] → named ≡ Some m → walk_step t d text c last named onward ≡ onward m
walk_step-onward t d text [] last named onward m e some f = absurd (some refl)
walk_step-onward t d text (b ∷ bs) last named onward m e some f = rw (e, f) refl

walk_step-same : (t : Bool) (d : ℕ) (text c : List ℕ) (last : Bool) (named : Option ℕ) (onward other : ℕ → Stop) → ((m : ℕ) → onward m ≡ other m) → walk_step t d text c last named onward ≡ walk_step t d text c last named other
walk_step-same false d text c last named onward other same = refl
walk_step-same true d text [] last named onward other same = refl
walk_step-same true d text (b ∷ bs) last None onward other same = refl
walk_step-same true d text (b ∷ bs) last (Some m) onward other same = same m

-- the last component of a split is asked for as the flags say: it is the last of the components, and nothing
-- stands behind it
pub last_flag : (cs : List (List ℕ)) (rest : List ℕ) (create : Bool) → (bytes_eq (joined cs ++ rest) [] && create) ≡ (is_none_left cs && (bytes_eq rest [] && create))
last_flag [] rest create = refl
last_flag (c ∷ cs) rest create = refl

-- where something does, none is the last
pub unlast : (rest : List ℕ) (create : Bool) → rest ≢ [] → (bytes_eq rest [] && create) ≡ false
unlast [] create some = absurd (some refl)
unlast (b ∷ bs) create some = refl

module _ {K T F I : Type 0} where
  -- where a walk over a text of at most n bytes stops
  unfoldable pub walk : ℕ → State K T F I → Origin → List ℕ → (create fold : Bool) → Stop
  walk zero s place text create fold = Reached (directory_at s place) text
  walk (suc n) s place [] create fold = Reached (directory_at s place) []
  walk (suc n) s place (b ∷ bs) create fold =
      walk_step (is_directory s (directory_at s place)) (directory_at s place) (b ∷ bs) (next_component (b ∷ bs)) (bytes_eq (after_component (b ∷ bs)) [])
      (entry s place (next_component (b ∷ bs)) (bytes_eq (after_component (b ∷ bs)) [] && create) fold) (λ m. walk n s (InDirectory m) (after_component (b ∷ bs)) create fold)

  -- where the walk over a text stops
  abbrev pub walked : State K T F I → Origin → List ℕ → (create fold : Bool) → Stop
  walked s place text create fold = walk (length text) s place text create fold

  -- nothing is left of the text
  pub walk-nil : (n : ℕ) (s : State K T F I) (place : Origin) (create fold : Bool) → walk n s place [] create fold ≡ Reached (directory_at s place) []
  unfolding walk
  walk-nil zero s place create fold = refl
  walk-nil (suc n) s place create fold = refl

  -- the place is no directory
  pub walk-closed : (n : ℕ) (s : State K T F I) (place : Origin) (text : List ℕ) (create fold : Bool)
      → is_directory s (directory_at s place) ≡ false → walk n s place text create fold ≡ Reached (directory_at s place) text
  unfolding walk
  walk-closed zero s place text create fold e = refl
  walk-closed (suc n) s place [] create fold e = refl
  walk-closed (suc n) s place (b ∷ bs) create fold e = walk_step-closed _ _ _ _ _ _ _ e

  -- the next component is empty, or names nothing
  pub walk-missed : (n : ℕ) (s : State K T F I) (place : Origin) (b : ℕ) (bs : List ℕ) (create fold : Bool)
      → is_directory s (directory_at s place) ≡ true → (next_component (b ∷ bs) ≡ []) ⊎ (entry s place (next_component (b ∷ bs)) (bytes_eq (after_component (b ∷ bs)) [] && create) fold ≡ None)
      → walk (suc n) s place (b ∷ bs) create fold ≡ Missed (directory_at s place) (next_component (b ∷ bs)) (bytes_eq (after_component (b ∷ bs)) [])
  unfolding walk
  walk-missed n s place b bs create fold e (inl f) = walk_step-empty _ _ _ _ _ _ _ e f
  walk-missed n s place b bs create fold e (inr f) = walk_step-absent _ _ _ _ _ _ _ e f

  -- the next component names an object
  pub walk-found : (n : ℕ) (s : State K T F I) (place : Origin) (b : ℕ) (bs : List ℕ) (create fold : Bool) (m : ℕ)
      → is_directory s (directory_at s place) ≡ true → next_component (b ∷ bs) ≢ [] → entry s place (next_component (b ∷ bs)) (bytes_eq (after_component (b ∷ bs)) [] && create) fold ≡ Some m
      → walk (suc n) s place (b ∷ bs) create fold ≡ walk n s (InDirectory m) (after_component (b ∷ bs)) create fold
  unfolding walk
  walk-found n s place b bs create fold m e some f = walk_step-onward _ _ _ _ _ _ _ m e some f

  -- two walks that go on alike
  walk-same : (n k : ℕ) (s : State K T F I) (place : Origin) (b : ℕ) (bs : List ℕ) (create fold : Bool)
      → ((m : ℕ) → walk n s (InDirectory m) (after_component (b ∷ bs)) create fold ≡ walk k s (InDirectory m) (after_component (b ∷ bs)) create fold)
      → walk (suc n) s place (b ∷ bs) create fold ≡ walk (suc k) s place (b ∷ bs) create fold
  unfolding walk
  walk-same n k s place b bs create fold same = walk_step-same _ _ _ _ _ _ _ _ same

  -- a component that names an object, and what stands behind it
  pub walk-onward : (n : ℕ) (s : State K T F I) (place : Origin) (c rest : List ℕ) (create fold : Bool) (m : ℕ)
      → IsComponent c → IsRest rest → is_directory s (directory_at s place) ≡ true → entry s place c (bytes_eq rest [] && create) fold ≡ Some m
      → walk (suc n) s place ((separator ∷ c) ++ rest) create fold ≡ walk n s (InDirectory m) rest create fold
  walk-onward n s place c rest create fold m is_component bounded e f =
      let next : next_component ((separator ∷ c) ++ rest) ≡ c = next_component-joined c rest is_component bounded in
      let after : after_component ((separator ∷ c) ++ rest) ≡ rest = after_component-joined c rest is_component bounded in
      walk-found n s place separator (c ++ rest) create fold m e (λ h. is_component.0 (sym next ∙ h))
      (ap (λ (x : List ℕ). entry s place x (bytes_eq (after_component ((separator ∷ c) ++ rest)) [] && create) fold) next
      ∙ ap (λ (x : List ℕ). entry s place c (bytes_eq x [] && create) fold) after ∙ f)
      ∙ ap (λ (x : List ℕ). walk n s (InDirectory m) x create fold) after

  -- the place behind components that lead to an object is that object
  pub directory_at-place_behind : (s : State K T F I) (place : Origin) (cs : List (List ℕ)) (own fold : Bool) (o : ℕ) → IsPath s place cs own fold o → directory_at s (place_behind place cs o) ≡ o
  directory_at-place_behind s place [] own fold o path = sym path
  directory_at-place_behind s place (c ∷ cs) own fold o path = refl

  pub place_behind-in_directory : (s : State K T F I) (m : ℕ) (cs : List (List ℕ)) (own fold : Bool) (o : ℕ) → IsPath s (InDirectory m) cs own fold o → place_behind (InDirectory m) cs o ≡ InDirectory o
  place_behind-in_directory s m [] own fold o path = ap InDirectory (sym path)
  place_behind-in_directory s m (c ∷ cs) own fold o path = refl

  -- a walk follows a path, as far as it leads
  pub walk_along : (n : ℕ) (s : State K T F I) (place : Origin) (cs : List (List ℕ)) (rest : List ℕ) (own create fold : Bool) (o : ℕ)
      → length (joined cs ++ rest) ≤ n → All IsComponent cs → IsRest rest → own ≡ (bytes_eq rest [] && create) → IsPath s place cs own fold o
      → (k : ℕ) × (length rest ≤ k) × (walk n s place (joined cs ++ rest) create fold ≡ walk k s (place_behind place cs o) rest create fold)
  walk_along n s place [] rest own create fold o h each bounded flag path = (n, h, refl)
  walk_along zero s place (c ∷ cs) rest own create fold o h each bounded flag path = absurd (omega arith)
  walk_along (suc n) s place (c ∷ cs) rest own create fold o h each bounded flag path =
      let whole : joined (c ∷ cs) ++ rest ≡ (separator ∷ c) ++ (joined cs ++ rest) = append_assoc (separator ∷ c) (joined cs) rest in
      let shorter : length (joined cs ++ rest) ≤ n = omega (arith, ap length whole, length-append (separator ∷ c) (joined cs ++ rest)) in
      let is_component : IsComponent c = All-head IsComponent c cs each in
      let more = walk_along n s (InDirectory path.0) cs rest own create fold o shorter (All-tail IsComponent c cs each) bounded flag path.3 in
      let same : (bytes_eq (joined cs ++ rest) [] && create) ≡ (is_none_left cs && own) = last_flag cs rest create ∙ ap (λ (x : Bool). is_none_left cs && x) (sym flag) in
      let named : entry s place c (bytes_eq (joined cs ++ rest) [] && create) fold ≡ Some path.0 = ap (λ (x : Bool). entry s place c x fold) same ∙ path.2 in
      let first = walk-onward n s place c (joined cs ++ rest) create fold path.0 is_component (IsRest-joined cs rest bounded) path.1 named in
      (more.0, more.1, ap (λ (x : List ℕ). walk (suc n) s place x create fold) whole ∙ first ∙ more.2 ∙ ap (λ (x : Origin). walk more.0 s x rest create fold) (place_behind-in_directory s path.0 cs own fold o path.3))

  -- two walks that have enough for the text agree
  walks_agree : (n k : ℕ) (s : State K T F I) (place : Origin) (text : List ℕ) (create fold : Bool) → length text ≤ n → length text ≤ k → walk n s place text create fold ≡ walk k s place text create fold
  walks_agree n k s place [] create fold h i = walk-nil n s place create fold ∙ sym (walk-nil k s place create fold)
  walks_agree zero k s place (b ∷ bs) create fold h i = absurd (omega arith)
  walks_agree (suc n) zero s place (b ∷ bs) create fold h i = absurd (omega arith)
  walks_agree (suc n) (suc k) s place (b ∷ bs) create fold h i =
      walk-same n k s place b bs create fold (λ m. walks_agree n k s (InDirectory m) (after_component (b ∷ bs)) create fold (omega (arith, length-after_component b bs)) (omega (arith, length-after_component b bs)))

  -- the walk reaches what can be reached
  pub walk-reach : (s : State K T F I) (place : Origin) (text : List ℕ) (create fold : Bool) (o : ℕ) (rest : List ℕ)
      → IsReach s place text create fold o rest → walked s place text create fold ≡ Reached o rest
  walk-reach s place text create fold o rest (cs, split, path, ends) =
      let along = walk_along (length text) s place cs rest (bytes_eq rest [] && create) create fold o (omega (arith, ap length split.whole)) split.each split.bounded refl path in
      let at : directory_at s (place_behind place cs o) ≡ o = directory_at-place_behind s place cs (bytes_eq rest [] && create) fold o path in
      ap (λ (x : List ℕ). walk (length text) s place x create fold) split.whole ∙ along.2 ∙ go along.0 (place_behind place cs o) at ends
    where
      go : (k : ℕ) (behind : Origin) → directory_at s behind ≡ o → (is_directory s o ≡ false) ⊎ (rest ≡ []) → walk k s behind rest create fold ≡ Reached o rest
      go k behind at (inl closed) = walk-closed k s behind rest create fold (ap (is_directory s) at ∙ closed) ∙ ap (λ (x : ℕ). Reached x rest) at
      go k behind at (inr empty) = ap (λ (x : List ℕ). walk k s behind x create fold) empty ∙ walk-nil k s behind create fold ∙ (cc)

  -- the walk misses what can be missed
  pub walk-miss : (s : State K T F I) (place : Origin) (text : List ℕ) (create fold : Bool) (d : ℕ) (c : List ℕ) (last : Bool)
      → IsMiss s place text create fold d c last → walked s place text create fold ≡ Missed d c last
  walk-miss s place text create fold d c last (cs, rest, split, some, path, closed, next, none, is_last) =
      let along = walk_along (length text) s place cs rest false create fold d (omega (arith, ap length split.whole)) split.each split.bounded (sym (unlast rest create some)) path in
      let at : directory_at s (place_behind place cs d) ≡ d = directory_at-place_behind s place cs false fold d path in
      ap (λ (x : List ℕ). walk (length text) s place x create fold) split.whole ∙ along.2 ∙ go along.0 (place_behind place cs d) rest some next is_last along.1 at none
    where
      go : (k : ℕ) (behind : Origin) (rest : List ℕ) → rest ≢ [] → c ≡ next_component rest → last ≡ bytes_eq (after_component rest) [] → length rest ≤ k
          → directory_at s behind ≡ d → (c ≡ []) ⊎ (entry s behind c (last && create) fold ≡ None) → walk k s behind rest create fold ≡ Missed d c last
      go k behind [] some next is_last h at none = absurd (some refl)
      go zero behind (b ∷ bs) some next is_last h at none = absurd (omega arith)
      go (suc k) behind (b ∷ bs) some next is_last h at (inl none) = walk-missed k s behind b bs create fold (ap (is_directory s) at ∙ closed) (inl (sym next ∙ none)) ∙ (cc)
      go (suc k) behind (b ∷ bs) some next is_last h at (inr none) =
          walk-missed k s behind b bs create fold (ap (is_directory s) at ∙ closed) (inr (ap (λ (x : Bool). entry s behind (next_component (b ∷ bs)) (x && create) fold) (sym is_last) ∙ ap (λ (x : List ℕ). entry s behind x (last && create) fold) (sym next) ∙ none)) ∙ (cc)

  -- a walk stops in at most one way: as computed
  pub stop_is_walked : (s : State K T F I) (place : Origin) (text : List ℕ) (create fold : Bool) (stop : Stop)
      → IsStop s place text create fold stop → walked s place text create fold ≡ stop
  stop_is_walked s place text create fold (Missed d c last) stops = walk-miss s place text create fold d c last stops
  stop_is_walked s place text create fold (Reached o rest) stops = walk-reach s place text create fold o rest stops

  pub stop_unique : (s : State K T F I) (place : Origin) (text : List ℕ) (create fold : Bool) (a b : Stop)
      → IsStop s place text create fold a → IsStop s place text create fold b → a ≡ b
  stop_unique s place text create fold a b stops other = sym (stop_is_walked s place text create fold a stops) ∙ stop_is_walked s place text create fold b other

  -- a stop behind one more component in front
  pub IsStop-cons : (s : State K T F I) (place : Origin) (c : List ℕ) (m : ℕ) (text : List ℕ) (create fold : Bool) (stop : Stop)
      → IsComponent c → is_directory s (directory_at s place) ≡ true → entry s place c (bytes_eq text [] && create) fold ≡ Some m
      → IsStop s (InDirectory m) text create fold stop → IsStop s place ((separator ∷ c) ++ text) create fold stop
  IsStop-cons s place c m text create fold (Reached o rest) is_component dir named (cs, split, path, ends) =
      let same : (is_none_left cs && (bytes_eq rest [] && create)) ≡ (bytes_eq text [] && create) =
      sym (last_flag cs rest create) ∙ ap (λ (x : List ℕ). bytes_eq x [] && create) (sym split.whole) in
      (c ∷ cs, IsSplit-cons c rest cs text is_component split, (m, dir, ap (λ (x : Bool). entry s place c x fold) same ∙ named, path), ends)
  IsStop-cons s place c m text create fold (Missed d next last) is_component dir named (cs, rest, split, some, path, closed, is_next, none, is_last) =
      let same : (is_none_left cs && false) ≡ (bytes_eq text [] && create) =
      ap (λ (x : Bool). is_none_left cs && x) (sym (unlast rest create some)) ∙ sym (last_flag cs rest create) ∙ ap (λ (x : List ℕ). bytes_eq x [] && create) (sym split.whole) in
      (c ∷ cs, rest, IsSplit-cons c rest cs text is_component split, some, (m, dir, ap (λ (x : Bool). entry s place c x fold) same ∙ named, path), closed, is_next, go none, is_last)
    where
      go : (next ≡ []) ⊎ (entry s (place_behind (InDirectory m) cs d) next (last && create) fold ≡ None) → (next ≡ []) ⊎ (entry s (InDirectory d) next (last && create) fold ≡ None)
      go (inl e) = inl e
      go (inr e) = inr (subst (λ (x : Origin). entry s x next (last && create) fold ≡ None) (place_behind-in_directory s m cs false fold d path) e)

  -- what the walk computes is a stop
  pub walk_stops : (n : ℕ) (s : State K T F I) (place : Origin) (text : List ℕ) (create fold : Bool) → length text ≤ n → IsRest text → IsStop s place text create fold (walk n s place text create fold)
  walk_stops n s place [] create fold h bounded = rw walk-nil ([], IsSplit-nil [] tt, refl, inr refl)
  walk_stops zero s place (b ∷ bs) create fold h bounded = absurd (omega arith)
  walk_stops (suc n) s place (b ∷ bs) create fold h bounded =
      let after = after_component (b ∷ bs) in
      go (is_directory s (directory_at s place)) refl (next_component (b ∷ bs)) refl (entry s place (next_component (b ∷ bs)) (bytes_eq (after_component (b ∷ bs)) [] && create) fold) refl
      (λ m. walk_stops n s (InDirectory m) after create fold (omega (arith, length-after_component b bs)) (after_component-is_rest b bs))
    where
      d : ℕ
      d = directory_at s place

      last : Bool
      last = bytes_eq (after_component (b ∷ bs)) []

      in_front : (c : List ℕ) (stop : Stop) → next_component (b ∷ bs) ≡ c → IsStop s place ((separator ∷ c) ++ after_component (b ∷ bs)) create fold stop → IsStop s place (b ∷ bs) create fold stop
      in_front c stop next stops =
          subst (λ (x : List ℕ). IsStop s place x create fold stop) (ap (λ (x : List ℕ). (separator ∷ x) ++ after_component (b ∷ bs)) (sym next) ∙ sym (rest_in_parts b bs bounded)) stops

      onward : (m : ℕ) (c : List ℕ) → is_directory s d ≡ true → next_component (b ∷ bs) ≡ c → IsComponent c → entry s place c (bytes_eq (after_component (b ∷ bs)) [] && create) fold ≡ Some m
          → IsStop s (InDirectory m) (after_component (b ∷ bs)) create fold (walk n s (InDirectory m) (after_component (b ∷ bs)) create fold)
          → IsStop s place (b ∷ bs) create fold (walk n s (InDirectory m) (after_component (b ∷ bs)) create fold)
      onward m c dir next is_component named stops =
          in_front c (walk n s (InDirectory m) (after_component (b ∷ bs)) create fold) next
          (IsStop-cons s place c m (after_component (b ∷ bs)) create fold (walk n s (InDirectory m) (after_component (b ∷ bs)) create fold) is_component dir named stops)

      missed : (c : List ℕ) → is_directory s d ≡ true → next_component (b ∷ bs) ≡ c → (c ≡ []) ⊎ (entry s place c (bytes_eq (after_component (b ∷ bs)) [] && create) fold ≡ None) → IsStop s place (b ∷ bs) create fold (Missed d c last)
      missed c dir next none = ([], b ∷ bs, IsSplit-nil (b ∷ bs) bounded, (λ e. cc), refl, dir, sym next, none, refl)

      go : (t : Bool) → is_directory s d ≡ t → (c : List ℕ) → next_component (b ∷ bs) ≡ c → (named : Option ℕ) → entry s place c (bytes_eq (after_component (b ∷ bs)) [] && create) fold ≡ named
          → ((m : ℕ) → IsStop s (InDirectory m) (after_component (b ∷ bs)) create fold (walk n s (InDirectory m) (after_component (b ∷ bs)) create fold))
          → IsStop s place (b ∷ bs) create fold (walk (suc n) s place (b ∷ bs) create fold)
      go false e c next named f more = rw (walk-closed (suc n) s place (b ∷ bs) create fold e) ([], IsSplit-nil (b ∷ bs) bounded, refl, inl e)
      go true e [] next named f more = subst (IsStop s place (b ∷ bs) create fold) (sym (walk-missed n s place b bs create fold e (inl next) ∙ ap (λ (y : List ℕ). Missed d y last) next)) (missed [] e next (inl refl))
      go true e (x ∷ xs) next None f more =
          subst (IsStop s place (b ∷ bs) create fold)
          (sym (walk-missed n s place b bs create fold e (inr (ap (λ (y : List ℕ). entry s place y (bytes_eq (after_component (b ∷ bs)) [] && create) fold) next ∙ f)) ∙ ap (λ (y : List ℕ). Missed d y last) next))
          (missed (x ∷ xs) e next (inr f))
      go true e (x ∷ xs) next (Some m) f more =
          let some : next_component (b ∷ bs) ≢ [] = λ h. cc in
          rw (walk-found n s place b bs create fold m e some (ap (λ (y : List ℕ). entry s place y (bytes_eq (after_component (b ∷ bs)) [] && create) fold) next ∙ f))
          (onward m (x ∷ xs) e next (subst IsComponent next (next_component-is_component b bs some)) f (more m))

  -- the walk over a whole rest stops so
  pub walked_stops : (s : State K T F I) (place : Origin) (text : List ℕ) (create fold : Bool) → IsRest text → IsStop s place text create fold (walked s place text create fold)
  walked_stops s place text create fold bounded = walk_stops (length text) s place text create fold (le_refl (length text)) bounded

  -- more than enough is as good as enough
  pub walk-enough : (n : ℕ) (s : State K T F I) (place : Origin) (text : List ℕ) (create fold : Bool) → length text ≤ n → walk n s place text create fold ≡ walked s place text create fold
  walk-enough n s place text create fold h = walks_agree n (length text) s place text create fold h (le_refl (length text))
