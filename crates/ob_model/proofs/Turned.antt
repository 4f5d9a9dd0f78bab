-- What stays as it is where an object is made permanent or temporary.
use Rattle.std.proofs.Common.{◌≡◌, ◌≢◌, ◌∙◌, ℕ, ◌==◌, Bool, true, false, ◌&&◌, not, cond, if◌then◌else◌, List, [], ◌∷◌, map, find, Some, is_some, refl, ap, sym, eqb-true, eq-eqb}
use Rattle.std.specs.Option.{option_map_or}
use Rattle.std.proofs.lemmas.Bool.{false≢true, ne_eqb}
use Rattle.ob_model.specs.declared.state.Object.{Object}
use Rattle.ob_model.specs.State.{State, object_of, is_directory_body, shadow_in}
use Rattle.ob_model.specs.Settle.{is_permanent, has_name}
use Rattle.ob_model.specs.Permanence.{turned_object, with_permanence, turned}
use Rattle.ob_model.specs.Sound.{IsSound, Stands}
use Rattle.ob_model.proofs.Soundness.{changed_sound}

-- an object keeps its number, whether it is a directory, its shadow, and whether it is exclusive
module _ {F I : Type 0} (o : ℕ) (permanent : Bool) where
  pub turned_object-id : (x : Object F I) → (turned_object o permanent x).id ≡ x.id
  turned_object-id x = elim (x.id == o) as (λ b. (if b then record x { permanent = permanent } else x).id ≡ x.id) [ true ↦ refl | false ↦ refl ]

  pub turned_object-is_directory : (x : Object F I) → is_directory_body (turned_object o permanent x).body ≡ is_directory_body x.body
  turned_object-is_directory x =
      elim (x.id == o) as (λ b. is_directory_body (if b then record x { permanent = permanent } else x).body ≡ is_directory_body x.body) [ true ↦ refl | false ↦ refl ]

  pub turned_object-shadow : (x : Object F I) → shadow_in (turned_object o permanent x).body ≡ shadow_in x.body
  turned_object-shadow x = elim (x.id == o) as (λ b. shadow_in (if b then record x { permanent = permanent } else x).body ≡ shadow_in x.body) [ true ↦ refl | false ↦ refl ]

  pub turned_object-exclusive : (x : Object F I) → (turned_object o permanent x).exclusive ≡ x.exclusive
  turned_object-exclusive x = elim (x.id == o) as (λ b. (if b then record x { permanent = permanent } else x).exclusive ≡ x.exclusive) [ true ↦ refl | false ↦ refl ]

-- every other object is as it was
pub turned_others : {F I : Type 0} (o m : ℕ) (permanent : Bool) → (m == o) ≡ false → (xs : List (Object F I)) → find (λ x. x.id == m) (map (turned_object o permanent) xs) ≡ find (λ x. x.id == m) xs
turned_others o m permanent other [] = refl
turned_others {F} {I} o m permanent other (x ∷ xs) = go (x.id == o) refl (turned_others o m permanent other xs)
  where
    rest : List (Object F I)
    rest = map (turned_object o permanent) xs

    go : (b : Bool) → (x.id == o) ≡ b → find (λ y. y.id == m) rest ≡ find (λ y. y.id == m) xs
        → find (λ y. y.id == m) ((if b then record x { permanent = permanent } else x) ∷ rest) ≡ find (λ y. y.id == m) (x ∷ xs)
    go true same more =
        let another : (x.id == m) ≡ false = ne_eqb x.id m (λ e. false≢true (sym other ∙ eq-eqb m o (sym e ∙ eqb-true x.id o same))) in
        ap (λ b. cond b (Some (record x { permanent = permanent })) (find (λ y. y.id == m) rest)) another ∙ more ∙ sym (ap (λ b. cond b (Some x) (find (λ y. y.id == m) xs)) another)
    go false differ more = ap (λ found. cond (x.id == m) (Some x) found) more

-- and the object itself is permanent where it stands and is made so
pub turned_itself : {F I : Type 0} (o : ℕ) (permanent : Bool) (xs : List (Object F I))
    → option_map_or (λ x. x.permanent) (find (λ x. x.id == o) (map (turned_object o permanent) xs)) false ≡ (is_some (find (λ x. x.id == o) xs) && permanent)
turned_itself o permanent [] = refl
turned_itself {F} {I} o permanent (x ∷ xs) = go (x.id == o) refl (turned_itself o permanent xs)
  where
    rest : List (Object F I)
    rest = map (turned_object o permanent) xs

    go : (b : Bool) → (x.id == o) ≡ b → option_map_or (λ y. y.permanent) (find (λ y. y.id == o) rest) false ≡ (is_some (find (λ y. y.id == o) xs) && permanent)
        → option_map_or (λ y. y.permanent) (find (λ y. y.id == o) ((if b then record x { permanent = permanent } else x) ∷ rest)) false ≡ (is_some (cond b (Some x) (find (λ y. y.id == o) xs)) && permanent)
    go true same more = ap (λ b. option_map_or (λ y. y.permanent) (cond b (Some (record x { permanent = permanent })) (find (λ y. y.id == o) rest)) false) same
    go false differ more = ap (λ b. option_map_or (λ y. y.permanent) (cond b (Some x) (find (λ y. y.id == o) rest)) false) differ ∙ more

module _ {K T F I : Type 0} where
  -- what holds of the state and of the one with the object turned holds of what is left
  pub turned_either : (P : State K T F I → Type 0) (s : State K T F I) (o : ℕ) (permanent : Bool) → P s → P (with_permanence s o permanent) → P (turned s o permanent)
  turned_either P s o permanent same with_it = elim (permanent && not (has_name s o)) as (λ b. P (if b then s else with_permanence s o permanent)) [ true ↦ same | false ↦ with_it ]

  -- the state stays sound
  with_permanence_sound : (s : State K T F I) (o : ℕ) (permanent : Bool) → IsSound s → IsSound (with_permanence s o permanent)
  with_permanence_sound s o permanent sound = changed_sound (turned_object o permanent) (turned_object-id o permanent) (turned_object-is_directory o permanent) (turned_object-shadow o permanent) s s.set sound

  pub turned_sound : (s : State K T F I) (o : ℕ) (permanent : Bool) → IsSound s → IsSound (turned s o permanent)
  turned_sound s o permanent sound = turned_either IsSound s o permanent sound (with_permanence_sound s o permanent sound)

  -- which object is permanent afterwards, and that the others are as they were
  pub temporary_itself : (s : State K T F I) (o : ℕ) → is_permanent (turned s o false) o ≡ false
  temporary_itself s o = turned_itself o false s.objects ∙ none (is_some (object_of s o))
    where
      none : (b : Bool) → (b && false) ≡ false
      none true = refl
      none false = refl

  pub permanent_itself : (s : State K T F I) (o : ℕ) → Stands s o → has_name s o ≡ true → is_permanent (turned s o true) o ≡ true
  permanent_itself s o stands named =
      ap (λ b. is_permanent (if not b then s else with_permanence s o true) o) named ∙ turned_itself o true s.objects ∙ ap (λ b. b && true) stands

  pub nameless_left : (s : State K T F I) (o : ℕ) → has_name s o ≡ false → turned s o true ≡ s
  nameless_left s o none = ap (λ b. if not b then s else with_permanence s o true) none

  pub others_left : (s : State K T F I) (o m : ℕ) (permanent : Bool) → m ≢ o → object_of (turned s o permanent) m ≡ object_of s m
  others_left s o m permanent other = turned_either (λ t. object_of t m ≡ object_of s m) s o permanent refl (turned_others o m permanent (ne_eqb m o other) s.objects)
