-- A lookup, computed: what it ends with, that in a sound state it ends so, and that in each state it
-- has at most one end.
use Rattle.std.proofs.Common.{◌≡◌, ℕ, zero, suc, ◌&&◌, Bool, true, false, not, if◌then◌else◌, nat_lt, List, [], ◌∷◌, length, Option, None, Some, MatchOption, MatchBool, bytes_eq, refl, sym, ap, ◌∙◌, subst}
use Rattle.ob_base.specs.declared.status.Status.TheVariants.{ObjectTypeMismatch, ObjectPathSyntaxBad, NameTooLong, ReparseLimit}
use Rattle.std.specs.Option.{option_map_or}
use Rattle.ob_model.specs.declared.state.Body.TheVariants.{Directory, Link, Other}
use Rattle.ob_model.specs.declared.state.Body.{Body}
use Rattle.ob_model.specs.Names.{longest_name, substituted, begins_with_separator, IsRest}
use Rattle.ob_model.specs.State.{State, body_of, is_directory, is_directory_body}
use Rattle.ob_model.specs.Paths.{Origin, directory_at, origin_of, relative}
use Rattle.ob_model.specs.Parses.{LooksAgain}
use Rattle.ob_model.specs.Procedures.{Procedures}
use Rattle.ob_model.specs.declared.terms.Mode.{Mode}
use Rattle.ob_model.specs.Looks.{Look, At, Parse, Refused, Stop, Missed, Reached, Next, Over, Follow, at_miss, at_body, IsNext, IsStop, Again, Ends, Looks, LooksFrom, LooksUp}
use Rattle.ob_model.specs.Sound.{IsSound, IsDirectory, Stands}
use Rattle.ob_model.proofs.Walk.{walked, walked_stops, stop_unique}
use Rattle.ob_model.proofs.SoundPaths.{IsSoundOrigin, body_from_stands, stands_from_directory, path_stands, origin_is_directory}

-- what a lookup ends with, given how a followed link ends it
abbrev pub ended : Next → (List ℕ → List ℕ → Look) → Look
ended (Over look) followed = look
ended (Follow target rest) followed = followed target rest

-- what a lookup of a text that a reparse made ends with: whether the text is too long, its origin,
-- and how the lookup goes on from there
abbrev pub looked_again : Bool → Option (Origin × List ℕ) → (Origin × List ℕ → Look) → Look
looked_again true origin goes_on = Refused NameTooLong
looked_again false None goes_on = Refused ObjectPathSyntaxBad
looked_again false (Some at) goes_on = goes_on at

ended-Ends : (next : Next) (followed : List ℕ → List ℕ → Look) (Fits : Look → List ℕ → List ℕ → Type 0)
    → ((target rest : List ℕ) → Fits (followed target rest) target rest) → Ends next (Fits (ended next followed)) (ended next followed)
ended-Ends (Over look) followed Fits fits = refl
ended-Ends (Follow target rest) followed Fits fits = fits target rest

Ends-unique : (next : Next) (Fits : Look → List ℕ → List ℕ → Type 0) (a b : Look)
    → ((target rest : List ℕ) → Fits a target rest → Fits b target rest → a ≡ b) → Ends next (Fits a) a → Ends next (Fits b) b → a ≡ b
Ends-unique (Over look) Fits a b same h k = cc
Ends-unique (Follow target rest) Fits a b same h k = same target rest h k

module _ {K T F I : Type 0} where
  looked_again-Again : (s : State K T F I) (p : ℕ) (mode : Mode) (text : List ℕ) (goes_on : Origin × List ℕ → Look) (Fits : Look → Origin → List ℕ → Type 0)
      → IsSound s → ((at : Origin × List ℕ) → IsDirectory s (directory_at s at.0) → IsRest at.1 → Fits (goes_on at) at.0 at.1)
      → (look : Look) → look ≡ looked_again (nat_lt longest_name (length text)) (origin_of s p mode.create text) goes_on
      → Again s p mode text (Fits look) (λ status. look ≡ Refused status)
  looked_again-Again s p mode text goes_on Fits sound fits look e = go (nat_lt longest_name (length text)) (origin_of s p mode.create text) (origin_is_directory s p mode.create text sound) e
    where
      go : (t : Bool) (o : Option (Origin × List ℕ)) → IsSoundOrigin s o → look ≡ looked_again t o goes_on
          → MatchBool t (look ≡ Refused NameTooLong) (MatchOption o (look ≡ Refused ObjectPathSyntaxBad) (λ at. Fits look at.0 at.1))
      go true o fine e = e
      go false None fine e = e
      go false (Some at) fine e = subst (λ (x : Look). Fits x at.0 at.1) (sym e) (fits at fine.0 fine.1)

  pub Again-unique : (s : State K T F I) (p : ℕ) (mode : Mode) (text : List ℕ) (Fits : Look → Origin → List ℕ → Type 0) (a b : Look)
      → ((place : Origin) (rest : List ℕ) → Fits a place rest → Fits b place rest → a ≡ b)
      → Again s p mode text (Fits a) (λ status. a ≡ Refused status) → Again s p mode text (Fits b) (λ status. b ≡ Refused status) → a ≡ b
  Again-unique s p mode text Fits a b same h k = go (nat_lt longest_name (length text)) (origin_of s p mode.create text) h k
    where
      go : (t : Bool) (o : Option (Origin × List ℕ))
          → MatchBool t (a ≡ Refused NameTooLong) (MatchOption o (a ≡ Refused ObjectPathSyntaxBad) (λ at. Fits a at.0 at.1))
          → MatchBool t (b ≡ Refused NameTooLong) (MatchOption o (b ≡ Refused ObjectPathSyntaxBad) (λ at. Fits b at.0 at.1)) → a ≡ b
      go true o h k = cc
      go false None h k = cc
      go false (Some at) h k = same at.0 at.1 h k

module _ {K T F I : Type 0} (g : Procedures K T F I) where
  -- what is to be done at an object, given its body
  abbrev pub next_at : Mode → ℕ → List ℕ → ℕ → Option (Body F I) → Next
  next_at mode o rest n None = Over (At o)
  next_at mode o rest n (Some body) = at_body g mode o body rest n

  -- what is to be done at a stop
  abbrev pub next_of : State K T F I → Mode → ℕ → Stop → Next
  next_of s mode n (Missed d c last) = at_miss mode d c last
  next_of s mode n (Reached o rest) = next_at mode o rest n (body_of s o)

  -- what a lookup ends with
  unfoldable pub looked_up : State K T F I → ℕ → Mode → ℕ → Origin → List ℕ → Look
  looked_up s p mode zero place text = ended (next_of s mode zero (walked s place text mode.create mode.fold)) (λ target rest. Refused ReparseLimit)
  looked_up s p mode (suc n) place text =
      ended (next_of s mode (suc n) (walked s place text mode.create mode.fold))
      (λ target rest. looked_again (nat_lt longest_name (length (substituted target rest))) (origin_of s p mode.create (substituted target rest)) (λ at. looked_up s p mode n at.0 at.1))

  -- at most one thing is to be done at a stop
  pub next_unique : (s : State K T F I) (mode : Mode) (n : ℕ) (stop : Stop) (a b : Next) → IsNext g s mode n stop a → IsNext g s mode n stop b → a ≡ b
  next_unique s mode n (Missed d c last) a b h k = cc
  next_unique s mode n (Reached o rest) a b h k = go (body_of s o) h k
    where
      go : (x : Option (Body F I)) → MatchOption x ⊥ (λ body. a ≡ at_body g mode o body rest n) → MatchOption x ⊥ (λ body. b ≡ at_body g mode o body rest n) → a ≡ b
      go None h k = absurd h
      go (Some body) h k = cc

  -- in a sound state something is
  pub next_is : (s : State K T F I) (mode : Mode) (n : ℕ) (place : Origin) (text : List ℕ) (stop : Stop)
      → IsSound s → IsDirectory s (directory_at s place) → IsStop s place text mode.create mode.fold stop → IsNext g s mode n stop (next_of s mode n stop)
  next_is s mode n place text (Missed d c last) sound dir stops = refl
  next_is s mode n place text (Reached o rest) sound dir stops =
      go (body_of s o) (body_from_stands s o (path_stands s place stops.0 (bytes_eq rest [] && mode.create) mode.fold o sound (stands_from_directory s (directory_at s place) dir) stops.2))
    where
      go : (x : Option (Body F I)) → (body : Body F I) × (x ≡ Some body) → MatchOption x ⊥ (λ body. next_at mode o rest n x ≡ at_body g mode o body rest n)
      go None h = absurd (let e = h.1 in cc)
      go (Some body) h = refl

  -- in a sound state a lookup from a directory ends as computed
  pub looked_up-Looks : (s : State K T F I) (p : ℕ) (mode : Mode) (n : ℕ) (place : Origin) (text : List ℕ)
      → IsSound s → IsDirectory s (directory_at s place) → IsRest text → Looks g s p mode n place text (looked_up s p mode n place text)
  unfolding looked_up
  looked_up-Looks s p mode zero place text sound dir bounded =
      let stop = walked s place text mode.create mode.fold in
      let stops : IsStop s place text mode.create mode.fold stop = walked_stops s place text mode.create mode.fold bounded in (
        stop,
        next_of s mode zero stop,
        stops,
        next_is s mode zero place text stop sound dir stops,
        ended-Ends (next_of s mode zero stop) (λ target rest. Refused ReparseLimit) (λ look target rest. look ≡ Refused ReparseLimit) (λ target rest. refl),
      )
  looked_up-Looks s p mode (suc n) place text sound dir bounded =
      let stop = walked s place text mode.create mode.fold in
      let stops : IsStop s place text mode.create mode.fold stop = walked_stops s place text mode.create mode.fold bounded in (
        stop,
        next_of s mode (suc n) stop,
        stops,
        next_is s mode (suc n) place text stop sound dir stops,
        ended-Ends (next_of s mode (suc n) stop)
            (λ target rest. looked_again (nat_lt longest_name (length (substituted target rest))) (origin_of s p mode.create (substituted target rest)) (λ at. looked_up s p mode n at.0 at.1))
            (λ look target rest. Again s p mode (substituted target rest) (λ place' text'. Looks g s p mode n place' text' look) (λ status. look ≡ Refused status))
            (λ target rest. looked_again-Again s p mode (substituted target rest) (λ at. looked_up s p mode n at.0 at.1) (λ look place' text'. Looks g s p mode n place' text' look) sound
            (λ at at_directory at_rest. looked_up-Looks s p mode n at.0 at.1 sound at_directory at_rest) _ refl),
      )

  -- a lookup has at most one end
  pub looks_unique : (s : State K T F I) (p : ℕ) (mode : Mode) (n : ℕ) (place : Origin) (text : List ℕ) (a b : Look)
      → Looks g s p mode n place text a → Looks g s p mode n place text b → a ≡ b
  looks_unique s p mode zero place text a b (stop, next, stops, nexts, ends) (stop', next', stops', nexts', ends') =
      let same : stop' ≡ stop = stop_unique s place text mode.create mode.fold stop' stop stops' stops in
      let same_next : next' ≡ next = next_unique s mode zero stop next' next (subst (λ (x : Stop). IsNext g s mode zero x next') same nexts') nexts in
      Ends-unique next (λ look target rest. look ≡ Refused ReparseLimit) a b (λ target rest h k. cc) ends
      (subst (λ (x : Next). Ends x (λ target rest. b ≡ Refused ReparseLimit) b) same_next ends')
  looks_unique s p mode (suc n) place text a b (stop, next, stops, nexts, ends) (stop', next', stops', nexts', ends') =
      let same : stop' ≡ stop = stop_unique s place text mode.create mode.fold stop' stop stops' stops in
      let same_next : next' ≡ next = next_unique s mode (suc n) stop next' next (subst (λ (x : Stop). IsNext g s mode (suc n) x next') same nexts') nexts in
      Ends-unique next
      (λ look target rest. Again s p mode (substituted target rest) (λ place' text'. Looks g s p mode n place' text' look) (λ status. look ≡ Refused status)) a b
      (λ target rest h k. Again-unique s p mode (substituted target rest) (λ look place' text'. Looks g s p mode n place' text' look) a b
      (λ place' text' h' k'. looks_unique s p mode n place' text' a b h' k') h k) ends
      (subst (λ (x : Next). Ends x (λ target rest. Again s p mode (substituted target rest) (λ place' text'. Looks g s p mode n place' text' b) (λ status. b ≡ Refused status)) b) same_next ends')

  -- in a sound state a lookup from a directory has an end
  pub looks_total : (s : State K T F I) (p : ℕ) (mode : Mode) (n : ℕ) (place : Origin) (text : List ℕ)
      → IsSound s → IsDirectory s (directory_at s place) → IsRest text → (look : Look) × Looks g s p mode n place text look
  looks_total s p mode n place text sound dir bounded = (looked_up s p mode n place text, looked_up-Looks s p mode n place text sound dir bounded)

  -- a text that is looked up again has an end
  pub looks_again_total : (s : State K T F I) (p : ℕ) (mode : Mode) (n : ℕ) (text : List ℕ) → IsSound s → (look : Look) × LooksAgain g s p mode n text look
  looks_again_total s p mode zero text sound = (Refused ReparseLimit, refl)
  looks_again_total s p mode (suc n) text sound = (
    looked_again (nat_lt longest_name (length text)) (origin_of s p mode.create text) (λ at. looked_up s p mode n at.0 at.1),
    looked_again-Again s p mode text (λ at. looked_up s p mode n at.0 at.1) (λ look place' text'. Looks g s p mode n place' text' look) sound
        (λ at at_directory at_rest. looked_up-Looks s p mode n at.0 at.1 sound at_directory at_rest) _ refl,
  )

  -- what a name relative to an object of this body is looked up with
  abbrev pub looked_from : State K T F I → ℕ → Mode → ℕ → ℕ → Body F I → List ℕ → Look
  looked_from s p mode n root (Directory shadow) name = looked_up s p mode n (relative root name).0 (relative root name).1
  looked_from s p mode n root (Link target) name = Refused ObjectTypeMismatch
  looked_from s p mode n root (Other face inner) name = if g.parses (g.kind_of face) && not mode.create then Parse root name n else Refused ObjectTypeMismatch

  abbrev pub looked_relative : State K T F I → ℕ → Mode → ℕ → ℕ → Option (Body F I) → List ℕ → Look
  looked_relative s p mode n root None name = At root
  looked_relative s p mode n root (Some body) name = looked_from s p mode n root body name

  abbrev pub looked_at : State K T F I → ℕ → Mode → ℕ → Option (Origin × List ℕ) → Look
  looked_at s p mode n None = Refused ObjectPathSyntaxBad
  looked_at s p mode n (Some at) = looked_up s p mode n at.0 at.1

  -- what a name ends with, absolute or relative to the object of a root handle
  abbrev pub looked_up_name : State K T F I → ℕ → Mode → ℕ → Option ℕ → List ℕ → Look
  looked_up_name s p mode n None name = looked_at s p mode n (origin_of s p mode.create name)
  looked_up_name s p mode n (Some root) name = if begins_with_separator name then Refused ObjectPathSyntaxBad else looked_relative s p mode n root (body_of s root) name

  -- the object of a root handle, where there is one, is there
  abbrev pub IsSoundRoot : State K T F I → Option ℕ → Type 0
  IsSoundRoot s root = MatchOption root (Unit {0}) (Stands s)

  relative-is_rest : (root : ℕ) (name : List ℕ) → IsRest (relative root name).1
  relative-is_rest root [] = tt
  relative-is_rest root (b ∷ bs) = refl

  directory_at-relative : (s : State K T F I) (root : ℕ) (name : List ℕ) → directory_at s (relative root name).0 ≡ root
  directory_at-relative s root [] = refl
  directory_at-relative s root (b ∷ bs) = refl

  -- a directory's body is that of a directory
  is_directory-from_body : (s : State K T F I) (o : ℕ) (shadow : Option ℕ) → body_of s o ≡ Some (Directory shadow) → is_directory s o ≡ true
  is_directory-from_body s o shadow e = ap (λ (x : Option (Body F I)). option_map_or is_directory_body x false) e

  -- in a sound state a name ends as computed
  pub looked_up_name-LooksUp : (s : State K T F I) (p : ℕ) (mode : Mode) (n : ℕ) (root : Option ℕ) (name : List ℕ)
      → IsSound s → IsSoundRoot s root → LooksUp g s p mode n root name (looked_up_name s p mode n root name)
  looked_up_name-LooksUp s p mode n None name sound stands = go (origin_of s p mode.create name) (origin_is_directory s p mode.create name sound)
    where
      go : (o : Option (Origin × List ℕ)) → IsSoundOrigin s o → MatchOption o (looked_at s p mode n o ≡ Refused ObjectPathSyntaxBad) (λ at. Looks g s p mode n at.0 at.1 (looked_at s p mode n o))
      go None fine = refl
      go (Some at) fine = looked_up-Looks s p mode n at.0 at.1 sound fine.0 fine.1
  looked_up_name-LooksUp s p mode n (Some root) name sound stands = go (begins_with_separator name) (body_of s root) refl (body_from_stands s root stands)
    where
      for_body : (body : Body F I) → body_of s root ≡ Some body → LooksFrom g s p mode n root body name (looked_from s p mode n root body name)
      for_body (Directory shadow) e =
          looked_up-Looks s p mode n (relative root name).0 (relative root name).1 sound (ap (is_directory s) (directory_at-relative s root name) ∙ is_directory-from_body s root shadow e) (relative-is_rest root name)
      for_body (Link target) e = refl
      for_body (Other face inner) e = refl

      go : (t : Bool) (o : Option (Body F I)) → body_of s root ≡ o → (body : Body F I) × (o ≡ Some body)
          → MatchBool t ((if t then Refused ObjectPathSyntaxBad else looked_relative s p mode n root o name) ≡ Refused ObjectPathSyntaxBad)
          (MatchOption o ⊥ (λ body. LooksFrom g s p mode n root body name (if t then Refused ObjectPathSyntaxBad else looked_relative s p mode n root o name)))
      go true o e h = refl
      go false None e h = absurd (let k = h.1 in cc)
      go false (Some body) e h = for_body body e

  -- in a sound state a name has an end
  pub looks_up_total : (s : State K T F I) (p : ℕ) (mode : Mode) (n : ℕ) (root : Option ℕ) (name : List ℕ)
      → IsSound s → IsSoundRoot s root → (look : Look) × LooksUp g s p mode n root name look
  looks_up_total s p mode n root name sound stands = (looked_up_name s p mode n root name, looked_up_name-LooksUp s p mode n root name sound stands)

  -- a name has at most one end
  pub looks_up_unique : (s : State K T F I) (p : ℕ) (mode : Mode) (n : ℕ) (root : Option ℕ) (name : List ℕ) (a b : Look)
      → LooksUp g s p mode n root name a → LooksUp g s p mode n root name b → a ≡ b
  looks_up_unique s p mode n None name a b h k = go (origin_of s p mode.create name) h k
    where
      go : (o : Option (Origin × List ℕ)) → MatchOption o (a ≡ Refused ObjectPathSyntaxBad) (λ at. Looks g s p mode n at.0 at.1 a)
          → MatchOption o (b ≡ Refused ObjectPathSyntaxBad) (λ at. Looks g s p mode n at.0 at.1 b) → a ≡ b
      go None h k = cc
      go (Some at) h k = looks_unique s p mode n at.0 at.1 a b h k
  looks_up_unique s p mode n (Some root) name a b h k = go (begins_with_separator name) (body_of s root) h k
    where
      for_body : (body : Body F I) → LooksFrom g s p mode n root body name a → LooksFrom g s p mode n root body name b → a ≡ b
      for_body (Directory shadow) h k = looks_unique s p mode n (relative root name).0 (relative root name).1 a b h k
      for_body (Link target) h k = cc
      for_body (Other face inner) h k = cc

      go : (t : Bool) (o : Option (Body F I)) → MatchBool t (a ≡ Refused ObjectPathSyntaxBad) (MatchOption o ⊥ (λ body. LooksFrom g s p mode n root body name a))
          → MatchBool t (b ≡ Refused ObjectPathSyntaxBad) (MatchOption o ⊥ (λ body. LooksFrom g s p mode n root body name b)) → a ≡ b
      go true o h k = cc
      go false None h k = absurd h
      go false (Some body) h k = for_body body h k
