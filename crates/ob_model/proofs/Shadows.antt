-- The shadow of a directory: that it is there as long as the directory, and which directory gets one.
use Rattle.std.proofs.Common.{◌≡◌, ◌∙◌, ℕ, ◌<◌, ◌==◌, Bool, true, false, ◌&&◌, ◌||◌, not, cond, if◌then◌else◌, List, [], ◌∷◌, find, All, Option, None, Some, Result, Ok, Err, MatchOption, MatchResult, option_map, is_some, refl, ap, sym, subst, eq-eqb, eqb-true, inl, inr, ◌⊎◌}
use Rattle.std.specs.Prelude.{MatchBool}
use Rattle.std.specs.Option.{option_and_then, option_map_or, option_or}
use Rattle.std.specs.List.{list_any}
use Rattle.std.proofs.lemmas.Bool.{and_from, false≢true, or_right}
use Rattle.std.proofs.lemmas.List.Elements.{All-weaker}
use Rattle.std.proofs.lemmas.List.Folds.{find-append, list_any-append}
use Rattle.ob_base.specs.Attrs.{has_flag, inherit_flag, open_if_flag, permanent_flag, exclusive_flag}
use Rattle.ob_base.specs.Handle.{key_of}
use Rattle.ob_base.specs.declared.status.Status.{Status}
use Rattle.ob_base.specs.declared.status.Status.TheVariants.{Success, InvalidHandle, ObjectNameExists, ObjectNameCollision, ObjectTypeMismatch, TypeRefused}
use Rattle.ob_model.specs.declared.command.Place.{Place}
use Rattle.ob_model.specs.declared.command.Place.TheVariants as place
use Rattle.ob_model.specs.declared.reply.Answer.{Answer}
use Rattle.ob_model.specs.declared.reply.Answer.TheVariants.{Done, Ticket}
use Rattle.ob_model.specs.declared.reply.Given.{Given}
use Rattle.ob_model.specs.declared.reply.Given.TheVariants.{Nothing, Handle}
use Rattle.ob_model.specs.declared.state.Body.{Body}
use Rattle.ob_model.specs.declared.state.Body.TheVariants.{Directory, Link, Other}
use Rattle.ob_model.specs.declared.state.Held.{Held}
use Rattle.ob_model.specs.declared.state.Object.{Object}
use Rattle.ob_model.specs.declared.state.Wanted.TheVariants as wanted
use Rattle.ob_model.specs.declared.terms.Reason.{Reason}
use Rattle.ob_model.specs.declared.terms.Reason.TheVariants.{Opened, Created}
use Rattle.ob_model.specs.State.{State, object_of, body_of, is_directory, is_directory_body, shadow_in, shadow_of, is_live, held_of}
use Rattle.ob_model.specs.Procedures.{Procedures}
use Rattle.ob_model.specs.Settle.{has_handle, is_alive, settle}
use Rattle.ob_model.specs.Grants.{first_refusal, IsFreeValue, open_refusal_of, opened_body, opened_object, Grants, with_open, with_handle}
use Rattle.ob_model.specs.Types.{is_wanted, is_wanted_at}
use Rattle.ob_model.specs.Refusals.{gives, answers, create_refusals, IsRefused, Unless}
use Rattle.ob_model.specs.Opens.{options_by, OpensAt, GivesHandle}
use Rattle.ob_model.specs.Creates.{Making, MakesDirectory, create_mode, Spot, room_refusals, make_refusal, body_made, created, dropped, Makes, Creates}
use Rattle.ob_model.specs.Looks.{Look, At, Vacant, Parse, Refused, LooksUp, most_reparses}
use Rattle.ob_model.specs.Sound.{IsSound, IsDirectory, HasSoundShadowAmong, IsShadowAmong}
use Rattle.ob_model.specs.Step.{WithRoot, shadow_refusals, WithShadow, CreatesIn, CreatesAt}
use Rattle.ob_model.proofs.Finds.{find_none, All-kept}
use Rattle.ob_model.proofs.InOrder.{below_is_other, in_order-finds}
use Rattle.ob_model.proofs.SoundPaths.{find_of, of_some}
use Rattle.ob_model.proofs.Settled.{object_of-settle, alive_from_handle}
use Rattle.ob_model.proofs.Soundness.{HasLivingShadow, shadow_lives, find_id-map, opened_object-id, opened_object-is_directory}

-- ---- a shadow stays

-- what is found passes
passes : {X : Type 0} (test : X → Bool) (xs : List X) (x : X) → find test xs ≡ Some x → test x ≡ true
passes test [] x e = cc
passes {X} test (y ∷ xs) x e = go (test y) refl e (passes test xs x)
  where
    go : (b : Bool) → test y ≡ b → cond b (Some y) (find test xs) ≡ Some x → (find test xs ≡ Some x → test x ≡ true) → test x ≡ true
    go true is e rest = let same : y ≡ x = cc in ap test (sym same) ∙ is
    go false is e rest = rest e

module _ {K T F I : Type 0} where
  -- in a sound state the shadow of a directory is one
  pub shadow_is_directory : (s : State K T F I) (d shadow : ℕ) → IsSound s → shadow_of s d ≡ Some shadow → IsDirectory s shadow
  shadow_is_directory s d shadow sound e = go (object_of s d) (find_of (HasSoundShadowAmong s.objects) (λ x. x.id == d) s.objects sound.objects.shadows) e
    where
      go : (o : Option (Object F I)) → MatchOption o (Unit {0}) (HasSoundShadowAmong s.objects) → option_and_then shadow_in (option_map (λ x. x.body) o) ≡ Some shadow → IsDirectory s shadow
      go None h e = cc
      go (Some x) h e = (of_some (IsShadowAmong s.objects x.id) (shadow_in x.body) shadow e h).0

  -- the shadow of a directory that is alive is alive
  shadow_is_alive : (s : State K T F I) (d shadow : ℕ) → IsSound s → is_alive s d ≡ true → shadow_of s d ≡ Some shadow → is_alive s shadow ≡ true
  shadow_is_alive s d shadow sound alive e =
      go (object_of s d) refl (find_of (λ x. is_alive s x.id ≡ true → HasLivingShadow s x) (λ x. x.id == d) s.objects (shadow_lives s sound)) e
    where
      go : (o : Option (Object F I)) → object_of s d ≡ o → MatchOption o (Unit {0}) (λ x. is_alive s x.id ≡ true → HasLivingShadow s x)
          → option_and_then shadow_in (option_map (λ x. x.body) o) ≡ Some shadow → is_alive s shadow ≡ true
      go None f h e = cc
      go (Some x) f h e =
          let same : x.id ≡ d = eqb-true x.id d (passes (λ y. y.id == d) s.objects x f) in
          of_some (λ o. is_alive s o ≡ true) (shadow_in x.body) shadow e (h (subst (λ (n : ℕ). is_alive s n ≡ true) (sym same) alive))

  pub shadow_stays : (g : Procedures K T F I) (s : State K T F I) (d shadow : ℕ) → IsSound s → shadow_of (settle g s) d ≡ Some shadow → object_of (settle g s) shadow ≡ object_of s shadow
  shadow_stays g s d shadow sound e = go (is_alive s d) refl
    where
      go : (b : Bool) → is_alive s d ≡ b → object_of (settle g s) shadow ≡ object_of s shadow
      go true alive =
          let before : shadow_of s d ≡ Some shadow = sym (ap (λ (x : Option (Object F I)). option_and_then shadow_in (option_map (λ y. y.body) x)) (object_of-settle g s d alive)) ∙ e in
          object_of-settle g s shadow (shadow_is_alive s d shadow sound alive before)
      go false dead =
          let gone : object_of (settle g s) d ≡ None =
          find_none (λ x. x.id == d) (settle g s).objects
          (All-kept (λ x. is_alive s x.id) (λ x. Unit {0}) (λ x. (x.id == d) ≡ false) (λ x alive _. other x alive (x.id == d) refl) s.objects (λ k d within. tt)) in
          let none : shadow_of (settle g s) d ≡ None = ap (λ (x : Option (Object F I)). option_and_then shadow_in (option_map (λ y. y.body) x)) gone in
          absurd (let never : None ≡ Some shadow = sym none ∙ e in cc)
        where
          other : (x : Object F I) → is_alive s x.id ≡ true → (b : Bool) → (x.id == d) ≡ b → b ≡ false
          other x alive true is = absurd (false≢true (sym dead ∙ subst (λ (n : ℕ). is_alive s n ≡ true) (eqb-true x.id d is) alive))
          other x alive false is = refl

-- ---- which directory has which shadow

-- what an answer gives
abbrev given_in : Answer → Given
given_in (Done reply) = reply.given
given_in (Ticket number) = Nothing

abbrev status_in : Answer → Status
status_in (Done reply) = reply.status
status_in (Ticket number) = Success

module _ {K T F I : Type 0} (s t : State K T F I) (ok : Status) (value : ℕ) where
  -- an answer that gives a handle is none that refuses
  refused_not : (status : Status) → IsRefused s status (gives ok (Handle value)) t → ⊥
  refused_not status h = let nothing : Handle value ≡ Nothing = ap given_in h.0 in cc

  -- so that the step did what it does past its refusals, none of which held
  unless_does : (refusals : List (Bool × Status)) (Does : Type 0) → Unless refusals s (gives ok (Handle value)) t Does → (first_refusal refusals ≡ None) × Does
  unless_does refusals Does h = go (first_refusal refusals) h
    where
      go : (o : Option Status) → MatchOption o Does (λ status. IsRefused s status (gives ok (Handle value)) t) → (o ≡ None) × Does
      go None h = (refl, h)
      go (Some status) h = absurd (refused_not status h)

  held_does : (o : Option Held) (Does : Held → Type 0) → MatchOption o (IsRefused s InvalidHandle (gives ok (Handle value)) t) Does → (h : Held) × (o ≡ Some h) × Does h
  held_does None Does h = absurd (refused_not InvalidHandle h)
  held_does (Some x) Does h = (x, refl, h)

  root_does : (p : ℕ) (root : Option ℕ) (Does : Option ℕ → Type 0) → WithRoot s p root (gives ok (Handle value)) t Does → (at : Option ℕ) × Does at
  root_does p None Does h = (None, h)
  root_does p (Some handle) Does h =
      let held = held_does (option_and_then (held_of s p) (key_of handle)) (λ x. Does (Some x.object)) h in
      (Some held.0.object, held.2)

  shadow_does : (p shadow : ℕ) (Does : Option ℕ → Type 0) → WithShadow s p (Some shadow) (gives ok (Handle value)) t Does
      → (h : Held) × (option_and_then (held_of s p) (key_of shadow) ≡ Some h) × Does (Some h.object)
  shadow_does p shadow Does h =
      let held = held_does (option_and_then (held_of s p) (key_of shadow)) (λ x. Unless (shadow_refusals s x.object) s (gives ok (Handle value)) t (Does (Some x.object))) h in
      (held.0, held.1, (unless_does (shadow_refusals s held.0.object) (Does (Some held.0.object)) held.2).1)

  module _ (g : Procedures K T F I) (p attrs shadow : ℕ) where
    -- a directory with this shadow is made, or one that is there is opened
    abbrev MadeOrOpened : ℕ → Type 0
    MadeOrOpened o =
        ((spot : Spot) × Makes g s p attrs (MakesDirectory (Some o)) spot (gives ok (Handle value)) t)
        ⊎ ((d : ℕ) × OpensAt g s p attrs wanted.Directory ObjectNameExists d (gives ok (Handle value)) t)

    found_does : (o : ℕ) (look : Look) → Creates g s p attrs (MakesDirectory (Some o)) look (gives ok (Handle value)) t → MadeOrOpened o
    found_does o (Refused status) h = absurd (refused_not status h)
    found_does o (At d) h = go (has_flag open_if_flag attrs) h
      where
        go : (b : Bool) → MatchBool b (OpensAt g s p attrs wanted.Directory ObjectNameExists d (gives ok (Handle value)) t) (IsRefused s ObjectNameCollision (gives ok (Handle value)) t) → MadeOrOpened o
        go true h = inr (d, h)
        go false h = absurd (refused_not ObjectNameCollision h)
    found_does o (Parse d rest n) h = absurd h
    found_does o (Vacant d c) h = inl (Some (d, c), h)

    abbrev Shadowed : Type 0
    Shadowed = (h : Held) × (option_and_then (held_of s p) (key_of shadow) ≡ Some h) × MadeOrOpened h.object

    in_does : (where_to : Place) → CreatesIn g s p where_to attrs (Some shadow) MakesDirectory (gives ok (Handle value)) t → Shadowed
    in_does (place.At root name) h =
        let at = root_does p root (λ at. WithShadow s p (Some shadow) (gives ok (Handle value)) t (Looks at)) h in
        let does = shadow_does p shadow (Looks at.0) at.1 in
        (does.0, does.1, found_does does.0.object does.2.0 does.2.2)
      where
        Looks : Option ℕ → Option ℕ → Type 0
        Looks at d = (look : Look) × LooksUp g s p (create_mode attrs) most_reparses at name look × Creates g s p attrs (MakesDirectory d) look (gives ok (Handle value)) t
    in_does place.Unnamed h =
        let does = shadow_does p shadow (λ d. Makes g s p attrs (MakesDirectory d) None (gives ok (Handle value)) t) h in
        (does.0, does.1, inl (None, does.2))

    shadowed_does : (where_to : Place) → CreatesAt g s p where_to attrs (Some shadow) MakesDirectory (gives ok (Handle value)) t → Shadowed
    shadowed_does where_to h =
        in_does where_to
        (unless_does (create_refusals (is_live s p) true where_to attrs) (CreatesIn g s p where_to attrs (Some shadow) MakesDirectory (gives ok (Handle value)) t) h).1

-- ---- the handle that is given

module _ {K T F I : Type 0} (s : State K T F I) (p value o : ℕ) (inherit : Bool) where
  abbrev new_handle : Held
  new_handle = record { process = p; value = value; object = o; inherit = inherit; order = s.next_order }

  new_is_held : held_of s p value ≡ None → held_of (with_handle s p value o inherit) p value ≡ Some new_handle
  new_is_held free =
      find-append (λ (h : Held). h.process == p && h.value == value) s.handles (new_handle ∷ [])
      ∙ ap (λ (x : Option Held). option_or x (find (λ (h : Held). h.process == p && h.value == value) (new_handle ∷ []))) free
      ∙ ap (λ b. cond b (Some new_handle) None) (and_from (p == p) (value == value) (eq-eqb p p refl) (eq-eqb value value refl))

  new_has_handle : has_handle (with_handle s p value o inherit) o ≡ true
  new_has_handle =
      list_any-append (λ h. h.object == o) s.handles (new_handle ∷ [])
      ∙ or_right (list_any (λ h. h.object == o) s.handles) _ (ap (λ b. b || false) (eq-eqb o o refl))

-- an open leaves the body of a directory
opened_directory : {K T F I : Type 0} (g : Procedures K T F I) (set : T) (reason : Reason) (body : Body F I) → is_directory_body body ≡ true → opened_body g set body reason ≡ body
opened_directory g set reason (Directory shadow) h = refl
opened_directory g set reason (Link target) h = refl
opened_directory g set reason (Other face inner) h = cc

-- an answer gives one handle
one_handle : (status other : Status) (v w : ℕ) → gives status (Handle v) ≡ gives other (Handle w) → v ≡ w
one_handle status other v w e = let same : Handle v ≡ Handle w = ap given_in e in cc

-- a directory that is made with a shadow, and the handle to it
module _ {K T F I : Type 0} (g : Procedures K T F I) (s : State K T F I) (p attrs value o : ℕ) (spot : Spot) where
  abbrev there : State K T F I
  there = created g s p spot (Directory (Some o)) attrs value

  abbrev object : Object F I
  object = record { id = s.next_id; body = Directory (Some o); permanent = is_some spot && has_flag permanent_flag attrs; exclusive = has_flag exclusive_flag attrs }

  abbrev handle : Held
  handle = new_handle s p value s.next_id (has_flag inherit_flag attrs)

  handle_is_held : held_of s p value ≡ None → held_of (settle g there) p value ≡ Some handle
  handle_is_held free = new_is_held s p value s.next_id (has_flag inherit_flag attrs) free

  object_is_there : All (λ x. x.id < s.next_id) s.objects → body_of (settle g there) s.next_id ≡ Some (Directory (Some o))
  object_is_there drawn =
      ap (option_map (λ x. x.body))
      (object_of-settle g there s.next_id (alive_from_handle there s.next_id (new_has_handle s p value s.next_id (has_flag inherit_flag attrs)))
      ∙ in_order-finds (λ x. x.id) (λ x. x.id == s.next_id) object s.objects (eq-eqb s.next_id s.next_id refl)
      (All-weaker (λ x. x.id < s.next_id) (λ x. (x.id == s.next_id) ≡ false) (λ x less. below_is_other x.id s.next_id less) s.objects drawn))

-- a directory that is opened stays as it is
module _ {K T F I : Type 0} (g : Procedures K T F I) (s : State K T F I) (o : ℕ) (reason : Reason) where
  opened_stays : is_directory s o ≡ true → body_of (with_open g s o reason) o ≡ body_of s o
  opened_stays directory =
      ap (option_map (λ x. x.body)) (find_id-map (opened_object g s.set o reason) (opened_object-id g s.set o reason) (opened_object-is_directory g s.set o reason) o s.objects)
      ∙ go (object_of s o) directory
    where
      same : (x : Object F I) → is_directory_body x.body ≡ true → (b : Bool) → (if b then record x { body = opened_body g s.set x.body reason } else x).body ≡ x.body
      same x is true = opened_directory g s.set reason x.body is
      same x is false = refl

      go : (x : Option (Object F I)) → option_map_or is_directory_body (option_map (λ y. y.body) x) false ≡ true
          → option_map (λ y. y.body) (option_map (opened_object g s.set o reason) x) ≡ option_map (λ y. y.body) x
      go None is = refl
      go (Some x) is = ap Some (same x is (x.id == o))

module _ {K T F I : Type 0} (g : Procedures K T F I) (s t : State K T F I) (p : ℕ) (where_to : Place) (attrs shadow value : ℕ) where
  -- what is made is made with success, and what is opened was there
  made_is_success : (ok : Status) (making : Making K) (spot : Spot) → open_refusal_of g s.set (body_made g making) Created ≡ None → make_refusal g making ≡ None
      → Makes g s p attrs making spot (gives ok (Handle value)) t
      → (ok ≡ Success) × (held_of s p value ≡ None) × (t ≡ settle g (created g s p spot (body_made g making) attrs value))
  made_is_success ok making spot opens made makes = does (make_refusal g making) made (open_refusal_of g s.set (body_made g making) Created) opens (unless_does s t ok value (room_refusals s p spot) _ makes).1
    where
      Given : Type 0
      Given = (v : ℕ) × IsFreeValue s p v × (gives ok (Handle value) ≡ gives Success (Handle v)) × (t ≡ settle g (created g s p spot (body_made g making) attrs v))

      does : (refused : Option ℕ) → refused ≡ None → (closed : Option ℕ) → closed ≡ None
          → MatchOption refused (MatchOption closed Given (λ k. (gives ok (Handle value) ≡ answers (TypeRefused k)) × (t ≡ dropped g s (body_made g making)))) (λ k. IsRefused s (TypeRefused k) (gives ok (Handle value)) t)
          → (ok ≡ Success) × (held_of s p value ≡ None) × (t ≡ settle g (created g s p spot (body_made g making) attrs value))
      does (Some n) e closed f h = cc
      does None e (Some n) f h = cc
      does None e None f h =
          let same : h.0 ≡ value = sym (one_handle ok Success value h.0 h.2) in (
            ap status_in h.2,
            ap (held_of s p) (sym same) ∙ h.1.1,
            h.3 ∙ ap (λ (v : ℕ). settle g (created g s p spot (body_made g making) attrs v)) same,
          )

  opened_is_there : (ok : Status) (d : ℕ) → OpensAt g s p attrs wanted.Directory ObjectNameExists d (gives ok (Handle value)) t
      → (ok ≡ ObjectNameExists) × (is_directory s d ≡ true) × (held_of s p value ≡ None) × (t ≡ settle g (with_handle (with_open g s d Opened) p value d (options_by attrs).inherit))
  opened_is_there ok d opens =
      let does = unless_does s t ok value ((not (is_wanted_at g s d wanted.Directory), ObjectTypeMismatch) ∷ []) (GivesHandle g s p d (options_by attrs) Opened ObjectNameExists (gives ok (Handle value)) t) opens in
      given does.1.0 does.1.1 (directory (body_of s d) does.0) does.1.2 does.1.3
    where
      directory : (b : Option (Body F I)) → first_refusal ((not (option_map_or (is_wanted g wanted.Directory) b false), ObjectTypeMismatch) ∷ []) ≡ None → option_map_or is_directory_body b false ≡ true
      directory None e = cc
      directory (Some body) e = tested (is_directory_body body) e
        where
          tested : (b : Bool) → first_refusal ((not b, ObjectTypeMismatch) ∷ []) ≡ None → b ≡ true
          tested true e = refl
          tested false e = cc

      given : (r : Result ℕ Status) (u : State K T F I) → is_directory s d ≡ true → Grants g s p d (options_by attrs) Opened r u
          → MatchResult r (λ v. (gives ok (Handle value) ≡ gives ObjectNameExists (Handle v)) × (t ≡ settle g u)) (λ refusal. IsRefused s refusal (gives ok (Handle value)) t)
          → (ok ≡ ObjectNameExists) × (is_directory s d ≡ true) × (held_of s p value ≡ None) × (t ≡ settle g (with_handle (with_open g s d Opened) p value d (options_by attrs).inherit))
      given (Err refusal) u is grants h = absurd (refused_not s t ok value refusal h)
      given (Ok v) u is grants h =
          let same : v ≡ value = sym (one_handle ok ObjectNameExists value v h.0) in (
            ap status_in h.0,
            is,
            ap (held_of s p) (sym same) ∙ grants.1.1,
            h.1 ∙ ap (settle g) grants.2 ∙ ap (λ (n : ℕ). settle g (with_handle (with_open g s d Opened) p n d (options_by attrs).inherit)) same,
          )

  -- the directory that a create makes with a shadow has it
  pub made_has_its_shadow : IsSound s → CreatesAt g s p where_to attrs (Some shadow) MakesDirectory (gives Success (Handle value)) t
      → (h : Held) × (k : Held) × (option_and_then (held_of s p) (key_of shadow) ≡ Some h) × (held_of t p value ≡ Some k) × (body_of t k.object ≡ Some (Directory (Some h.object)))
  made_has_its_shadow sound step = go (shadowed_does s t Success value g p attrs shadow where_to step)
    where
      go : Shadowed s t Success value g p attrs shadow
          → (h : Held) × (k : Held) × (option_and_then (held_of s p) (key_of shadow) ≡ Some h) × (held_of t p value ≡ Some k) × (body_of t k.object ≡ Some (Directory (Some h.object)))
      go (h, e, inl (spot, makes)) =
          let does = made_is_success Success (MakesDirectory (Some h.object)) spot refl refl makes in (
            h,
            handle g s p attrs value h.object spot,
            e,
            ap (λ (u : State K T F I). held_of u p value) does.2 ∙ handle_is_held g s p attrs value h.object spot does.1,
            ap (λ (u : State K T F I). body_of u s.next_id) does.2 ∙ object_is_there g s p attrs value h.object spot sound.objects.drawn,
          )
      go (h, e, inr (d, opens)) = let never : Success ≡ ObjectNameExists = (opened_is_there Success d opens).0 in absurd (cc)

  -- a directory that a create opens stays as it is
  pub opened_keeps_its_shadow : CreatesAt g s p where_to attrs (Some shadow) MakesDirectory (gives ObjectNameExists (Handle value)) t
      → (k : Held) × (held_of t p value ≡ Some k) × (is_directory s k.object ≡ true) × (body_of t k.object ≡ body_of s k.object)
  opened_keeps_its_shadow step = let does = shadowed_does s t ObjectNameExists value g p attrs shadow where_to step in go does.0.object does.2
    where
      go : (o : ℕ) → MadeOrOpened s t ObjectNameExists value g p attrs shadow o
          → (k : Held) × (held_of t p value ≡ Some k) × (is_directory s k.object ≡ true) × (body_of t k.object ≡ body_of s k.object)
      go o (inl (spot, makes)) = let never : ObjectNameExists ≡ Success = (made_is_success ObjectNameExists (MakesDirectory (Some o)) spot refl refl makes).0 in absurd (cc)
      go o (inr (d, opens)) =
          let does = opened_is_there ObjectNameExists d opens in
          let u = with_open g s d Opened in
          let inherit = (options_by attrs).inherit in (
            new_handle u p value d inherit,
            ap (λ (v : State K T F I). held_of v p value) does.3 ∙ new_is_held u p value d inherit does.2,
            does.1,
            ap (λ (v : State K T F I). body_of v d) does.3
                ∙ ap (option_map (λ (x : Object F I). x.body)) (object_of-settle g (with_handle u p value d inherit) d (alive_from_handle (with_handle u p value d inherit) d (new_has_handle u p value d inherit)))
                ∙ opened_stays g s d Opened does.1,
          )
