-- Which values lead alike after two steps: after a handle comes, and after a child begins.
use Rattle.std.proofs.Common.{◌≡◌, ◌∙◌, ℕ, ◌+◌, ◌<◌, ◌==◌, Bool, true, false, ◌&&◌, not, cond, List, [], ◌∷◌, ◌++◌, map, get_or, Option, None, Some, All, refl, ap, sym, subst, arith, eq-eqb}
use Rattle.std.specs.Option.{option_map_or}
use Rattle.std.proofs.lemmas.Bool.{ne_eqb}
use Rattle.std.proofs.lemmas.List.Elements.{All-filter, filter_passes}
use Rattle.ob_base.specs.Handle.{key_of}
use Rattle.ob_model.specs.declared.reply.Answer.{Answer}
use Rattle.ob_model.specs.declared.state.Held.{Held}
use Rattle.ob_model.specs.State.{State}
use Rattle.ob_model.specs.Settle.{has_name}
use Rattle.ob_model.specs.declared.terms.Reason.TheVariants.{Inherited}
use Rattle.ob_model.specs.Procedures.{Procedures}
use Rattle.ob_model.specs.Grants.{IsFreeValue, open_refusal, with_open, with_handle}
use Rattle.ob_model.specs.Permanence.{turned, with_permanence}
use Rattle.ob_model.specs.Processes.{handles_in, inherited_from, with_child, inherits_one, inherits, begun}
use Rattle.ob_model.specs.Sound.{IsSound}
use Rattle.ob_model.specs.Alike.{unvalued_handle, is_named, handle_given, process_given, AreAlike, LeadAlike, IsHeld, LeadOn}
use Rattle.ob_model.proofs.Ended.{live_numbered}
use Rattle.ob_model.proofs.AlikeHandles.{named_owner, kept_places, plain_places, map_same, nowhere, somewhere_too, from_one, new_is_unnamed, one_more_place, own_key, new_is_named, none_is_named}
use Rattle.ob_model.proofs.Unvalued.{handles_in-unvalued, inherits_one-unvalued, inherited_from-unvalued}

-- what a child gets of a handle is the one that a process names by a value
abbrev hands : ℕ → ℕ → ℕ → Held → Bool
hands child p value h = option_map_or (λ key. (child == p) && (h.value == key)) (key_of value) false

-- no other process names it, and the child names it as the parent does
hands_no_other : (child p value : ℕ) (h : Held) → (child == p) ≡ false → hands child p value h ≡ false
hands_no_other child p value h e = go (key_of value)
  where
    go : (o : Option ℕ) → option_map_or (λ key. (child == p) && (h.value == key)) o false ≡ false
    go None = refl
    go (Some key) = ap (λ b. b && (h.value == key)) e

hands_own : (child q value : ℕ) (h : Held) → (h.process == q) ≡ true → hands child child value h ≡ is_named q value h
hands_own child q value h e = go (key_of value)
  where
    go : (o : Option ℕ) → option_map_or (λ key. (child == child) && (h.value == key)) o false ≡ option_map_or (λ key. (h.process == q) && (h.value == key)) o false
    go None = refl
    go (Some key) = ap (λ b. b && (h.value == key)) (eq-eqb child child refl ∙ sym e)

module _ {K T F I : Type 0} (s t : State K T F I) (q r : ℕ) where
  -- where nothing is given
  pub lead_on_with_nothing : (a b : Answer) (u v : State K T F I) → handle_given a ≡ None → process_given a ≡ None
      → ((p value other : ℕ) → IsHeld s p value → LeadAlike s t p value other → LeadAlike u v p value other) → LeadOn s t q r a b u v
  lead_on_with_nothing a b u v no_handle no_process held = record {
    held = held;
    granted = λ value other given given_too. let both : None ≡ Some value = sym no_handle ∙ given in cc;
    inherited = λ child value other given lead. let both : None ≡ Some child = sym no_process ∙ given in cc;
  }

  -- where a handle is given to a process
  pub lead_on_with_handle : (a b : Answer) (u v : State K T F I) (value second : ℕ) (new other : Held) → map unvalued_handle s.handles ≡ map unvalued_handle t.handles
      → handle_given a ≡ Some value → handle_given b ≡ Some second → process_given a ≡ None
      → IsFreeValue s r value → IsFreeValue t r second → new.process ≡ r → new.value ≡ value → other.process ≡ r → other.value ≡ second
      → u.handles ≡ s.handles ++ new ∷ [] → v.handles ≡ t.handles ++ other ∷ [] → LeadOn s t q r a b u v
  lead_on_with_handle a b u v value second new other alike given given_too no_process free free_too owner is owner_too is_too u_is v_is = record {
    held = λ p x y held lead.
        (λ i. map (is_named p x) (u_is i))
        ∙ one_more_place (is_named p x) (is_named p y) s.handles t.handles new other lead
        (new_is_unnamed p x r value s.handles new owner is free.1 held
        ∙ sym (new_is_unnamed p y r second t.handles other owner_too is_too free_too.1 (somewhere_too (is_named p x) (is_named p y) s.handles t.handles lead held)))
        ∙ (λ i. map (is_named p y) (sym v_is i));
    granted = λ x y gives gives_too.
        let first : value ≡ x = cc in
        let then : second ≡ y = cc in
        subst (λ (n : ℕ). LeadAlike u v r n y) first (subst (λ (n : ℕ). LeadAlike u v r value n) then last);
    inherited = λ child x y gives lead. let both : None ≡ Some child = sym no_process ∙ gives in cc;
  }
    where
      last : LeadAlike u v r value second
      last =
          (λ i. map (is_named r value) (u_is i))
          ∙ one_more_place (is_named r value) (is_named r second) s.handles t.handles new other
          (nowhere (is_named r value) (is_named r second) s.handles t.handles alike
          (none_is_named r value s.handles (own_key value free.0) free.1) (none_is_named r second t.handles (own_key second free_too.0) free_too.1))
          (new_is_named r value s.handles new owner is (own_key value free.0) ∙ sym (new_is_named r second t.handles other owner_too is_too (own_key second free_too.0)))
          ∙ (λ i. map (is_named r second) (sym v_is i))

module _ {K T F I : Type 0} where
  -- an object that is made permanent or temporary leaves the handles
  pub turned_handles : (s : State K T F I) (o : ℕ) (permanent : Bool) → (turned s o permanent).handles ≡ s.handles
  turned_handles s o permanent = go (permanent && not (has_name s o))
    where
      go : (b : Bool) → (cond b s (with_permanence s o permanent)).handles ≡ s.handles
      go true = refl
      go false = refl

  -- ---- a child that begins

  inherits_lead : (g : Procedures K T F I) (child p value other : ℕ) (hs is : List Held) (s t : State K T F I) → AreAlike s t → map unvalued_handle hs ≡ map unvalued_handle is
      → map (hands child p value) hs ≡ map (hands child p other) is → LeadAlike s t p value other → LeadAlike (inherits g s child hs) (inherits g t child is) p value other
  inherits_lead g child p value other [] [] s t alike same tests lead = lead
  inherits_lead g child p value other [] (i ∷ is) s t alike same tests lead = cc
  inherits_lead g child p value other (h ∷ hs) [] s t alike same tests lead = cc
  inherits_lead g child p value other (h ∷ hs) (i ∷ is) s t alike same tests lead =
      let heads : unvalued_handle h ≡ unvalued_handle i = cc in
      let tails : map unvalued_handle hs ≡ map unvalued_handle is = cc in
      let here : hands child p value h ≡ hands child p other i = cc in
      let others : map (hands child p value) hs ≡ map (hands child p other) is = cc in
      inherits_lead g child p value other hs is (inherits_one g s child h) (inherits_one g t child i)
      (sym (inherits_one-unvalued g s child h) ∙ (λ j. inherits_one g (alike j) child (heads j)) ∙ inherits_one-unvalued g t child i) tails others
      (go (open_refusal g s h.object Inherited) (open_refusal g t i.object Inherited) (λ j. open_refusal g (alike j) (heads j).object Inherited) here)
    where
      after : State K T F I → Held → Option ℕ → State K T F I
      after x y o = option_map_or (λ _. record x { next_order = x.next_order + 1 }) o (with_handle (with_open g x y.object Inherited) child y.value y.object true)

      go : (x y : Option ℕ) → x ≡ y → hands child p value h ≡ hands child p other i → LeadAlike (after s h x) (after t i y) p value other
      go None None e here =
          one_more_place (is_named p value) (is_named p other) s.handles t.handles
          (record { process = child; value = h.value; object = h.object; inherit = true; order = s.next_order })
          (record { process = child; value = i.value; object = i.object; inherit = true; order = t.next_order }) lead here
      go None (Some k) e here = cc
      go (Some k) None e here = cc
      go (Some k) (Some n) e here = lead

  inherited_alike : (s t : State K T F I) → AreAlike s t → (q : ℕ) (inherit : Bool) → map unvalued_handle (inherited_from s q inherit) ≡ map unvalued_handle (inherited_from t q inherit)
  inherited_alike s t alike q inherit = sym (inherited_from-unvalued s q inherit) ∙ ap (λ x. inherited_from x q inherit) alike ∙ inherited_from-unvalued t q inherit

  -- nobody has a handle under the next number
  unowned : (s : State K T F I) → IsSound s → All (λ h. (h.process == s.next_process) ≡ false) s.handles
  unowned s sound = λ k d within.
      let less = live_numbered s.processes s.next_process (get_or s.handles k d).process sound.processes.numbered (sound.handles.live k d within) in
      ne_eqb (get_or s.handles k d).process s.next_process (λ same. omega (arith, less, same))

  unnamed : (s : State K T F I) (value : ℕ) → IsSound s → All (λ h. is_named s.next_process value h ≡ false) s.handles
  unnamed s value sound = λ k d within. go (get_or s.handles k d) (unowned s sound k d within) (key_of value)
    where
      go : (h : Held) → (h.process == s.next_process) ≡ false → (o : Option ℕ) → option_map_or (λ key. (h.process == s.next_process) && (h.value == key)) o false ≡ false
      go h e None = refl
      go h e (Some key) = ap (λ b. b && (h.value == key)) e

  numbers_alike : (s t : State K T F I) → AreAlike s t → s.next_process ≡ t.next_process
  numbers_alike s t alike = ap (λ x. x.next_process) alike

  handles_alike : (s t : State K T F I) → AreAlike s t → map unvalued_handle s.handles ≡ map unvalued_handle t.handles
  handles_alike s t alike = ap (λ x. x.handles) alike

  -- what led alike where a child begins leads alike when it has begun
  begun_lead : (g : Procedures K T F I) (s t : State K T F I) → AreAlike s t → (q : ℕ) (inherit : Bool) (p value other : ℕ)
      → map (hands s.next_process p value) (inherited_from s q inherit) ≡ map (hands s.next_process p other) (inherited_from t q inherit)
      → LeadAlike s t p value other → LeadAlike (begun g s q inherit) (begun g t q inherit) p value other
  begun_lead g s t alike q inherit p value other tests lead =
      subst (λ (n : ℕ). LeadAlike (begun g s q inherit) (inherits g (with_child t q) n (inherited_from t q inherit)) p value other) (numbers_alike s t alike)
      (inherits_lead g s.next_process p value other (inherited_from s q inherit) (inherited_from t q inherit) (with_child s q) (with_child t q)
      (ap (λ x. with_child x q) alike) (inherited_alike s t alike q inherit) tests lead)

  pub begun_lead_held : (g : Procedures K T F I) (s t : State K T F I) → AreAlike s t → IsSound s → (q : ℕ) (inherit : Bool) (p value other : ℕ) → IsHeld s p value → LeadAlike s t p value other
      → LeadAlike (begun g s q inherit) (begun g t q inherit) p value other
  begun_lead_held g s t alike sound q inherit p value other held lead =
      begun_lead g s t alike q inherit p value other
      (nowhere (hands s.next_process p value) (hands s.next_process p other) (inherited_from s q inherit) (inherited_from t q inherit) (inherited_alike s t alike q inherit)
      (λ k d within. hands_no_other s.next_process p value (get_or (inherited_from s q inherit) k d) apart)
      (λ k d within. hands_no_other s.next_process p other (get_or (inherited_from t q inherit) k d) apart)) lead
    where
      apart : (s.next_process == p) ≡ false
      apart =
          from_one (is_named p value) s.handles
          (λ k d within named.
          let owner : (get_or s.handles k d).process ≡ p = named_owner p value (get_or s.handles k d) named in
          let less : (get_or s.handles k d).process < s.next_process =
          live_numbered s.processes s.next_process (get_or s.handles k d).process sound.processes.numbered (sound.handles.live k d within) in
          ne_eqb s.next_process p (λ same. omega (arith, less, owner, same))) held

  pub begun_lead_child : (g : Procedures K T F I) (s t : State K T F I) → AreAlike s t → IsSound s → IsSound t → (q : ℕ) (inherit : Bool) (value other : ℕ) → LeadAlike s t q value other
      → LeadAlike (begun g s q inherit) (begun g t q inherit) s.next_process value other
  begun_lead_child g s t alike sound sound_too q inherit value other lead =
      begun_lead g s t alike q inherit s.next_process value other
      (map_same (hands s.next_process s.next_process value) (is_named q value) (inherited_from s q inherit)
      (λ k d within. hands_own s.next_process q value (get_or (inherited_from s q inherit) k d) (owned s k d within))
      ∙ places
      ∙ sym (map_same (hands s.next_process s.next_process other) (is_named q other) (inherited_from t q inherit)
      (λ k d within. hands_own s.next_process q other (get_or (inherited_from t q inherit) k d) (owned t k d within))))
      (nowhere (is_named s.next_process value) (is_named s.next_process other) s.handles t.handles (handles_alike s t alike) (unnamed s value sound)
      (subst (λ (n : ℕ). All (λ h. is_named n other h ≡ false) t.handles) (sym (numbers_alike s t alike)) (unnamed t other sound_too)))
    where
      owned : (x : State K T F I) → All (λ h. (h.process == q) ≡ true) (inherited_from x q inherit)
      owned x = All-filter (λ h. h.inherit && inherit) (λ h. (h.process == q) ≡ true) (handles_in x q) (filter_passes (λ h. h.process == q) x.handles)

      owners : map unvalued_handle (handles_in s q) ≡ map unvalued_handle (handles_in t q)
      owners = sym (handles_in-unvalued s q) ∙ ap (λ x. handles_in x q) alike ∙ handles_in-unvalued t q

      places : map (is_named q value) (inherited_from s q inherit) ≡ map (is_named q other) (inherited_from t q inherit)
      places =
          kept_places (λ h. h.inherit && inherit) (λ h. h.inherit && inherit) (is_named q value) (is_named q other) (handles_in s q) (handles_in t q)
          (plain_places (λ h. h.inherit && inherit) (handles_in s q) (handles_in t q) owners (λ h. refl))
          (kept_places (λ h. h.process == q) (λ h. h.process == q) (is_named q value) (is_named q other) s.handles t.handles
          (plain_places (λ h. h.process == q) s.handles t.handles (handles_alike s t alike) (λ h. refl)) lead)
