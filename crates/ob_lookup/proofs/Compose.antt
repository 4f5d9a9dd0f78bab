-- The rest of a walk, walked from the place it has reached, ends where the walk from its beginning does.
use Rattle.std.proofs.Common.{◌≡◌, ◌≢◌, ◌⊎◌, ℕ, Bool, false, ◌&&◌, List, [], ◌∷◌, ◌++◌, None, inl, inr, refl, ap, sym, ◌∙◌, subst, append_assoc}
use Rattle.std.proofs.lemmas.List.Elements.{All-append}
use Rattle.std.specs.Str.{bytes_eq}
use Rattle.ob_model.specs.Names.{separator, joined, IsComponent, IsSplit}
use Rattle.ob_model.specs.State.{State}
use Rattle.ob_model.specs.Paths.{Origin, InDirectory, IsPath, directory_at, entry, place_behind, is_none_left}
use Rattle.ob_model.specs.Looks.{Stop, Missed, Reached, IsStop}
use Rattle.ob_model.proofs.Walk.{place_behind-in_directory}
use Rattle.ob_lookup.specs.declared.start.Start.{Start}
use Rattle.ob_lookup.specs.Onward.{Led}
use Rattle.ob_lookup.specs.Walk.{place_of, text_of}

-- components and further ones make the text of both
joined-append : (cs ds : List (List ℕ)) → joined (cs ++ ds) ≡ joined cs ++ joined ds
joined-append [] ds = refl
joined-append (c ∷ cs) ds = ap (λ (x : List ℕ). (separator ∷ c) ++ x) (joined-append cs ds) ∙ sym (append_assoc (separator ∷ c) (joined cs) (joined ds))

-- a split of what stands behind components goes on with these
split_more : (text rest more : List ℕ) (cs ds : List (List ℕ)) → IsSplit text cs rest → IsSplit rest ds more → IsSplit text (cs ++ ds) more
split_more text rest more cs ds first second = record {
  each = All-append IsComponent cs ds first.each second.each;
  whole =
      first.whole ∙ ap (λ (x : List ℕ). joined cs ++ x) second.whole ∙ sym (append_assoc (joined cs) (joined ds) more)
      ∙ ap (λ (x : List ℕ). x ++ more) (sym (joined-append cs ds));
  bounded = second.bounded;
}

-- which flag a path has where components follow, and where none do
abbrev Fits : List (List ℕ) → Bool → Bool → Type 0
Fits [] first own = first ≡ own
Fits (d ∷ ds) first own = first ≡ false

fits_flag : (cs ds : List (List ℕ)) (first own : Bool) → Fits ds first own → (is_none_left cs && first) ≡ (is_none_left (cs ++ ds) && own)
fits_flag [] [] first own fits = fits
fits_flag [] (d ∷ ds) first own fits = fits
fits_flag (c ∷ cs) ds first own fits = refl

-- that of what is left of a text before components of it and behind them
fits_text : (ds : List (List ℕ)) (text rest : List ℕ) (create : Bool) → text ≡ joined ds ++ rest → Fits ds (bytes_eq text [] && create) (bytes_eq rest [] && create)
fits_text [] text rest create whole = ap (λ (t : List ℕ). bytes_eq t [] && create) whole
fits_text (d ∷ ds) text rest create whole = ap (λ (t : List ℕ). bytes_eq t [] && create) whole

fits_missed : (ds : List (List ℕ)) (text rest : List ℕ) (create : Bool) → text ≡ joined ds ++ rest → rest ≢ [] → Fits ds (bytes_eq text [] && create) false
fits_missed [] text [] create whole some = absurd (some refl)
fits_missed [] text (r ∷ rest) create whole some = ap (λ (t : List ℕ). bytes_eq t [] && create) whole
fits_missed (d ∷ ds) text rest create whole some = ap (λ (t : List ℕ). bytes_eq t [] && create) whole

module _ {K T F I : Type 0} (s : State K T F I) (fold : Bool) where
  -- a path goes on with another from where it leads
  path_more : (a b : Origin) (cs ds : List (List ℕ)) (first own : Bool) (o : ℕ) → Fits ds first own → IsPath s a cs first fold (directory_at s b) → place_behind a cs (directory_at s b) ≡ b
      → IsPath s b ds own fold o → IsPath s a (cs ++ ds) own fold o
  path_more a b [] ds first own o fits path is more = subst (λ (x : Origin). IsPath s x ds own fold o) (sym is) more
  path_more a b (c ∷ cs) ds first own o fits path is more = (
    path.0,
    path.1,
    ap (λ (x : Bool). entry s a c x fold) (sym (fits_flag cs ds first own fits)) ∙ path.2,
    path_more (InDirectory path.0) b cs ds first own o fits path.3 (place_behind-in_directory s path.0 cs first fold (directory_at s b) path.3 ∙ is) more,
  )

  -- and stops at the same place
  behind_more : (a b : Origin) (cs ds : List (List ℕ)) (own : Bool) (o : ℕ) → place_behind a cs (directory_at s b) ≡ b → IsPath s b ds own fold o
      → place_behind a (cs ++ ds) o ≡ place_behind b ds o
  behind_more a b [] ds own o is path = ap (λ (x : Origin). place_behind x ds o) is
  behind_more a b (c ∷ cs) [] own o is path = ap InDirectory path ∙ is
  behind_more a b (c ∷ cs) (d ∷ ds) own o is path = refl

  module _ (p : ℕ) (start between : Start) (create : Bool) (led : Led s p start create fold (place_of p between) (text_of between)) where
    abbrev flag : List ℕ → Bool
    flag rest = bytes_eq rest [] && create

    -- what the walk from there leads to
    pub led_more : (place : Origin) (rest : List ℕ) → Led s p between create fold place rest → Led s p start create fold place rest
    led_more place rest on = (
      led.0 ++ on.0,
      split_more (text_of start) (text_of between) rest led.0 on.0 led.1 on.1,
      path_more (place_of p start) (place_of p between) led.0 on.0 (flag (text_of between)) (flag rest) (directory_at s place) (fits_text on.0 (text_of between) rest create on.1.whole) led.2 led.3 on.2,
      behind_more (place_of p start) (place_of p between) led.0 on.0 (flag rest) (directory_at s place) led.3 on.2 ∙ on.3,
    )

    -- where the walk from there stops
    pub stop_more : (stop : Stop) → IsStop s (place_of p between) (text_of between) create fold stop → IsStop s (place_of p start) (text_of start) create fold stop
    stop_more (Missed d c last) on = (
      led.0 ++ on.0,
      on.1,
      split_more (text_of start) (text_of between) on.1 led.0 on.0 led.1 on.2,
      on.3,
      path_more (place_of p start) (place_of p between) led.0 on.0 (flag (text_of between)) false d (fits_missed on.0 (text_of between) on.1 create on.2.whole on.3) led.2 led.3 on.4,
      on.5,
      on.6,
      missing on.7,
      on.8,
    )
      where
        missing : (c ≡ []) ⊎ (entry s (place_behind (place_of p between) on.0 d) c (last && create) fold ≡ None)
            → (c ≡ []) ⊎ (entry s (place_behind (place_of p start) (led.0 ++ on.0) d) c (last && create) fold ≡ None)
        missing (inl e) = inl e
        missing (inr e) =
            inr (subst (λ (o : Origin). entry s o c (last && create) fold ≡ None) (sym (behind_more (place_of p start) (place_of p between) led.0 on.0 false d led.3 on.4)) e)
    stop_more (Reached o rest) on = (
      led.0 ++ on.0,
      split_more (text_of start) (text_of between) rest led.0 on.0 led.1 on.1,
      path_more (place_of p start) (place_of p between) led.0 on.0 (flag (text_of between)) (flag rest) o (fits_text on.0 (text_of between) rest create on.1.whole) led.2 led.3 on.2,
      on.3,
    )
