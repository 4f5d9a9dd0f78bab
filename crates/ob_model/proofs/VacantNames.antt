-- A vacant place that a lookup ends with has a component for its name.
use Rattle.std.proofs.Common.{◌≡◌, ◌≢◌, ◌∙◌, ℕ, zero, suc, ◌==◌, Bool, true, false, ◌&&◌, not, List, [], ◌∷◌, length, refl, sym, subst}
use Rattle.std.specs.Prelude.{codes, if◌then◌else◌, nat_lt, Option, None, Some, MatchOption, MatchBool}
use Rattle.std.specs.Str.{bytes_eq}
use Rattle.ob_base.specs.declared.status.Status.{Status}
use Rattle.ob_base.specs.declared.status.Status.TheVariants.{ObjectNameInvalid, ObjectNameNotFound, ObjectPathSyntaxBad, ObjectTypeMismatch, NameTooLong, ReparseLimit}
use Rattle.ob_model.specs.declared.state.Body.{Body}
use Rattle.ob_model.specs.declared.state.Body.TheVariants.{Directory, Link, Other}
use Rattle.ob_model.specs.Names.{longest_name, IsComponent, next_component, substituted, begins_with_separator}
use Rattle.ob_model.specs.State.{State, root_id, body_of}
use Rattle.ob_model.specs.Paths.{Origin, relative}
use Rattle.ob_model.specs.Procedures.{Procedures}
use Rattle.ob_model.specs.declared.terms.Mode.{Mode}
use Rattle.ob_model.specs.Looks.{Look, At, Vacant, Parse, Refused, Stop, Missed, Reached, Next, Over, Follow, at_miss, at_link, named_or_mismatch, at_body, IsNext, IsStop, Again, Ends, Looks, LooksFrom, LooksUp}
use Rattle.ob_model.proofs.Components.{next_component-is_component}

-- the component of a vacant place is one
abbrev pub HasComponent : Look → Type 0
HasComponent (At o) = Unit {0}
HasComponent (Vacant d c) = IsComponent c
HasComponent (Parse o rest n) = Unit {0}
HasComponent (Refused status) = Unit {0}

-- the same of what is to be done next, where the lookup is over
abbrev NextHasComponent : Next → Type 0
NextHasComponent (Over look) = HasComponent look
NextHasComponent (Follow target rest) = Unit {0}

-- a refusal has none to tell
refusal_has : (look : Look) (status : Status) → look ≡ Refused status → HasComponent look
refusal_has look status h = subst HasComponent (sym h) tt

miss_has : (mode : Mode) (d : ℕ) (c : List ℕ) (last : Bool) → (c ≢ [] → IsComponent c) → NextHasComponent (at_miss mode d c last)
miss_has mode d [] last is = tt
miss_has mode d (b ∷ bs) false is = tt
miss_has mode d (b ∷ bs) true is = go mode.create ((d == root_id) && bytes_eq (b ∷ bs) (codes "??"))
  where
    go : (create barred : Bool)
        → NextHasComponent (if not create then Over (Refused ObjectNameNotFound) else if barred then Over (Refused ObjectNameInvalid) else Over (Vacant d (b ∷ bs)))
    go false barred = tt
    go true true = tt
    go true false = is (λ empty. cc)

named_has : (o : ℕ) (rest : List ℕ) → HasComponent (named_or_mismatch o rest)
named_has o [] = tt
named_has o (b ∷ bs) = tt

link_has : (mode : Mode) (o : ℕ) (target rest : List ℕ) → NextHasComponent (at_link mode o target rest)
link_has mode o target [] = go (mode.follow && not mode.create)
  where
    go : (follows : Bool) → NextHasComponent (if follows then Follow target [] else Over (At o))
    go true = tt
    go false = tt
link_has mode o target (b ∷ bs) = tt

-- what is missed is the next component of a rest that isn't empty
missed_is_component : (c rest : List ℕ) → rest ≢ [] → c ≡ next_component rest → c ≢ [] → IsComponent c
missed_is_component c [] some is named = absurd (some refl)
missed_is_component c (b ∷ bs) some is named = subst IsComponent (sym is) (next_component-is_component b bs (λ empty. named (is ∙ empty)))

module _ {K T F I : Type 0} (g : Procedures K T F I) (s : State K T F I) (p : ℕ) (mode : Mode) where
  body_has : (o : ℕ) (body : Body F I) (rest : List ℕ) (n : ℕ) → NextHasComponent (at_body g mode o body rest n)
  body_has o (Directory shadow) rest n = tt
  body_has o (Link target) rest n = link_has mode o target rest
  body_has o (Other face inner) rest n = go (g.parses (g.kind_of face) && not mode.create)
    where
      go : (parses : Bool) → HasComponent (if parses then Parse o rest n else named_or_mismatch o rest)
      go true = tt
      go false = named_has o rest

  next_has : (place : Origin) (text : List ℕ) (n : ℕ) (stop : Stop) (next : Next) → IsStop s place text mode.create mode.fold stop → IsNext g s mode n stop next → NextHasComponent next
  next_has place text n (Missed d c last) next stop h = subst NextHasComponent (sym h) (miss_has mode d c last (missed_is_component c stop.1 stop.3 stop.6))
  next_has place text n (Reached o rest) next stop h = go (body_of s o) h
    where
      go : (body : Option (Body F I)) → MatchOption body ⊥ (λ body. next ≡ at_body g mode o body rest n) → NextHasComponent next
      go None h = absurd h
      go (Some body) h = subst NextHasComponent (sym h) (body_has o body rest n)

  -- what a lookup ends with where it is over, or follows a link
  ends_has : (next : Next) (followed : List ℕ → List ℕ → Type 0) (look : Look) → NextHasComponent next → ((target rest : List ℕ) → followed target rest → HasComponent look) → Ends next followed look → HasComponent look
  ends_has (Over end) followed look has goes h = subst HasComponent (sym h) has
  ends_has (Follow target rest) followed look has goes h = goes target rest h

  -- a text is looked up from where it begins, or is refused
  begun_has : (o : Option (Origin × List ℕ)) (Goes : Origin × List ℕ → Type 0) (look : Look) → ((at : Origin × List ℕ) → Goes at → HasComponent look)
      → MatchOption o (look ≡ Refused ObjectPathSyntaxBad) Goes → HasComponent look
  begun_has None Goes look goes h = refusal_has look ObjectPathSyntaxBad h
  begun_has (Some at) Goes look goes h = goes at h

  again_has : (long : Bool) (o : Option (Origin × List ℕ)) (Goes : Origin × List ℕ → Type 0) (look : Look) → ((at : Origin × List ℕ) → Goes at → HasComponent look)
      → MatchBool long (look ≡ Refused NameTooLong) (MatchOption o (look ≡ Refused ObjectPathSyntaxBad) Goes) → HasComponent look
  again_has true o Goes look goes h = refusal_has look NameTooLong h
  again_has false o Goes look goes h = begun_has o Goes look goes h

  looks_has : (n : ℕ) (place : Origin) (text : List ℕ) (look : Look) → Looks g s p mode n place text look → HasComponent look
  looks_has zero place text look h =
      ends_has h.1 (λ target rest. look ≡ Refused ReparseLimit) look (next_has place text zero h.0 h.1 h.2 h.3) (λ target rest told. refusal_has look ReparseLimit told) h.4
  looks_has (suc n) place text look h =
      ends_has h.1 (λ target rest. Again s p mode (substituted target rest) (λ place' text'. Looks g s p mode n place' text' look) (λ status. look ≡ Refused status)) look
      (next_has place text (suc n) h.0 h.1 h.2 h.3)
      (λ target rest again. again_has (nat_lt longest_name (length (substituted target rest))) _ (λ at. Looks g s p mode n at.0 at.1 look) look (λ at goes. looks_has n at.0 at.1 look goes) again) h.4

  from_has : (n root : ℕ) (body : Body F I) (name : List ℕ) (look : Look) → LooksFrom g s p mode n root body name look → HasComponent look
  from_has n root (Directory shadow) name look h = looks_has n (relative root name).0 (relative root name).1 look h
  from_has n root (Link target) name look h = refusal_has look ObjectTypeMismatch h
  from_has n root (Other face inner) name look h = go (g.parses (g.kind_of face) && not mode.create) h
    where
      go : (parses : Bool) → look ≡ (if parses then Parse root name n else Refused ObjectTypeMismatch) → HasComponent look
      go true h = subst HasComponent (sym h) tt
      go false h = refusal_has look ObjectTypeMismatch h

  -- the end of the lookup of a name
  pub vacant_name : (n : ℕ) (root : Option ℕ) (name : List ℕ) (look : Look) → LooksUp g s p mode n root name look → HasComponent look
  vacant_name n None name look h = begun_has _ (λ at. Looks g s p mode n at.0 at.1 look) look (λ at goes. looks_has n at.0 at.1 look goes) h
  vacant_name n (Some root) name look h = go (begins_with_separator name) h
    where
      there : (body : Option (Body F I)) → MatchOption body ⊥ (λ body. LooksFrom g s p mode n root body name look) → HasComponent look
      there None h = absurd h
      there (Some body) h = from_has n root body name look h

      go : (separated : Bool) → MatchBool separated (look ≡ Refused ObjectPathSyntaxBad) (MatchOption (body_of s root) ⊥ (λ body. LooksFrom g s p mode n root body name look)) → HasComponent look
      go true h = refusal_has look ObjectPathSyntaxBad h
      go false h = there (body_of s root) h
