-- A lookup that copies nothing ends the same, however many reparses are left; so what it is refused at is what is found.
use Rattle.std.proofs.Common.{◌≡◌, ◌∙◌, ℕ, zero, suc, Bool, true, false, ◌&&◌, not, ◌==◌, List, [], ◌∷◌, ap, refl, sym, subst}
use Rattle.std.specs.Prelude.{Option, None, Some, MatchOption, MatchBool, if◌then◌else◌, codes}
use Rattle.std.specs.Str.{bytes_eq}
use Rattle.ob_base.specs.declared.status.Status.TheVariants.{ObjectNameInvalid, ObjectPathNotFound, ObjectNameNotFound, ObjectPathSyntaxBad, ObjectTypeMismatch, ReparseLimit}
use Rattle.ob_model.specs.declared.state.Body.{Body}
use Rattle.ob_model.specs.declared.state.Body.TheVariants.{Directory, Link, Other}
use Rattle.ob_model.specs.declared.state.Wanted.{Wanted}
use Rattle.ob_model.specs.declared.terms.Mode.{Mode}
use Rattle.ob_model.specs.Creates.{Making}
use Rattle.ob_model.specs.Looks.{Look, At, Vacant, Parse, Refused, Stop, Missed, Reached, Next, Over, Follow, at_miss, at_link, at_body, named_or_mismatch, IsNext, Ends, Looks, LooksFrom, LooksUp}
use Rattle.ob_model.specs.Names.{begins_with_separator}
use Rattle.ob_model.specs.Paths.{Origin, origin_of, relative}
use Rattle.ob_model.specs.Procedures.{Procedures}
use Rattle.ob_model.specs.State.{State, root_id, body_of}
use Rattle.ob_model.proofs.Lookup.{looks_up_unique}
use Rattle.ob_lookup.specs.Look.{MayWantMemory}
use Rattle.ob_space.specs.Found.{LooksInPlace, IsNameRefused, is_open_refused_at, is_create_refused_at}
use Rattle.ob_space.specs.Roots.{root_of}

pub not_true : false ≡ true → ⊥
not_true e = cc

-- what makes an error a success never is, and what never is leads to anything
pub isnt : {A : Type 0} → (A → false ≡ true) → A → ⊥
isnt f a = not_true (f a)

pub never : {A B : Type 0} → (A → ⊥) → A → B
never f a = absurd (f a)

over_is : (a b : Look) → Over a ≡ Over b → a ≡ b
over_is a b same = cc

some_is : (a b : Option ℕ) → Some a ≡ Some b → a ≡ b
some_is a b same = cc

-- the same end with so many reparses left
abbrev pub with_left : ℕ → Look → Look
with_left n (At o) = At o
with_left n (Vacant d c) = Vacant d c
with_left n (Parse o rest m) = Parse o rest n
with_left n (Refused status) = Refused status

-- what is refused at an end doesn't hang on the reparses that are left
abbrev pub IgnoresLeft : (Look → Bool) → Type 0
IgnoresLeft refuses = (n : ℕ) (end : Look) → refuses (with_left n end) ≡ refuses end

-- an end that tells of no reparses stays as it is
stays : (n : ℕ) (end told : Look) → with_left n told ≡ told → Over end ≡ Over told → Over (with_left n end) ≡ Over told
stays n end told same is = ap Over (ap (with_left n) (over_is end told is) ∙ same)

named_same : (n o : ℕ) (rest : List ℕ) → with_left n (named_or_mismatch o rest) ≡ named_or_mismatch o rest
named_same n o [] = refl
named_same n o (b ∷ bs) = refl

-- what an object of the set ends a lookup with tells the reparses that are left where it is to parse
other_same : (parses : Bool) (o : ℕ) (rest : List ℕ) (n : ℕ) (told end : Look) → with_left n told ≡ told
    → end ≡ (if parses then Parse o rest zero else told) → with_left n end ≡ (if parses then Parse o rest n else told)
other_same true o rest n told end same is = ap (with_left n) is
other_same false o rest n told end same is = ap (with_left n) is ∙ same

module _ (mode : Mode) (n : ℕ) (end : Look) where
  miss_same : (d : ℕ) (c : List ℕ) (last : Bool) → Over end ≡ at_miss mode d c last → Over (with_left n end) ≡ at_miss mode d c last
  miss_same d [] last is = stays n end (Refused ObjectNameInvalid) refl is
  miss_same d (b ∷ bs) false is = stays n end (Refused ObjectPathNotFound) refl is
  miss_same d (b ∷ bs) true is = go (not mode.create) ((d == root_id) && bytes_eq (b ∷ bs) (codes "??")) is
    where
      go : (t u : Bool) → Over end ≡ (if t then Over (Refused ObjectNameNotFound) else if u then Over (Refused ObjectNameInvalid) else Over (Vacant d (b ∷ bs)))
          → Over (with_left n end) ≡ (if t then Over (Refused ObjectNameNotFound) else if u then Over (Refused ObjectNameInvalid) else Over (Vacant d (b ∷ bs)))
      go true u is = stays n end (Refused ObjectNameNotFound) refl is
      go false true is = stays n end (Refused ObjectNameInvalid) refl is
      go false false is = stays n end (Vacant d (b ∷ bs)) refl is

  link_same : (o : ℕ) (target rest : List ℕ) → Over end ≡ at_link mode o target rest → Over (with_left n end) ≡ at_link mode o target rest
  link_same o target (b ∷ bs) is = cc
  link_same o target [] is = go (mode.follow && not mode.create) is
    where
      go : (t : Bool) → Over end ≡ (if t then Follow target [] else Over (At o)) → Over (with_left n end) ≡ (if t then Follow target [] else Over (At o))
      go true is = cc
      go false is = stays n end (At o) refl is

module _ {K T F I : Type 0} (g : Procedures K T F I) (s : State K T F I) (p : ℕ) (mode : Mode) where
  body_same : (body : Body F I) (o : ℕ) (rest : List ℕ) (n : ℕ) (end : Look)
      → Over end ≡ at_body g mode o body rest zero → Over (with_left n end) ≡ at_body g mode o body rest n
  body_same (Directory shadow) o rest n end is = stays n end (At o) refl is
  body_same (Link target) o rest n end is = link_same mode n end o target rest is
  body_same (Other face inner) o rest n end is =
      ap Over (other_same (g.parses (g.kind_of face) && not mode.create) o rest n (named_or_mismatch o rest) end (named_same n o rest) (over_is end _ is))

  stop_same : (stop : Stop) (n : ℕ) (end : Look) → IsNext g s mode zero stop (Over end) → IsNext g s mode n stop (Over (with_left n end))
  stop_same (Missed d c last) n end is = miss_same mode n end d c last is
  stop_same (Reached o rest) n end is = go (body_of s o) is
    where
      go : (x : Option (Body F I)) → MatchOption x ⊥ (λ body. Over end ≡ at_body g mode o body rest zero) → MatchOption x ⊥ (λ body. Over (with_left n end) ≡ at_body g mode o body rest n)
      go None is = is
      go (Some body) is = body_same body o rest n end is

  from_there : (n : ℕ) (place : Origin) (text : List ℕ) (end : Look) → (MayWantMemory end → ⊥) → Looks g s p mode zero place text end → Looks g s p mode n place text (with_left n end)
  from_there n place text end apart (stop, next, stops, is_next, ends) = go n next is_next ends
    where
      go : (n : ℕ) (next : Next) → IsNext g s mode zero stop next → Ends next (λ target rest. end ≡ Refused ReparseLimit) end → Looks g s p mode n place text (with_left n end)
      go zero (Over found) is_next is =
          (stop, Over (with_left zero end), stops, stop_same stop zero end (subst (λ (x : Look). IsNext g s mode zero stop (Over x)) (sym is) is_next), refl)
      go (suc n) (Over found) is_next is =
          (stop, Over (with_left (suc n) end), stops, stop_same stop (suc n) end (subst (λ (x : Look). IsNext g s mode zero stop (Over x)) (sym is) is_next), refl)
      go n (Follow target rest) is_next is = absurd (apart (subst MayWantMemory (sym is) refl))

  more : (n : ℕ) (root : Option ℕ) (name : List ℕ) (end : Look) → (MayWantMemory end → ⊥) → LooksUp g s p mode zero root name end → LooksUp g s p mode n root name (with_left n end)
  more n None name end apart looks = go (origin_of s p mode.create name) looks
    where
      go : (o : Option (Origin × List ℕ)) → MatchOption o (end ≡ Refused ObjectPathSyntaxBad) (λ at. Looks g s p mode zero at.0 at.1 end)
          → MatchOption o (with_left n end ≡ Refused ObjectPathSyntaxBad) (λ at. Looks g s p mode n at.0 at.1 (with_left n end))
      go None is = ap (with_left n) is
      go (Some at) looks = from_there n at.0 at.1 end apart looks
  more n (Some root) name end apart looks = go (begins_with_separator name) (body_of s root) looks
    where
      for_body : (body : Body F I) → LooksFrom g s p mode zero root body name end → LooksFrom g s p mode n root body name (with_left n end)
      for_body (Directory shadow) looks = from_there n (relative root name).0 (relative root name).1 end apart looks
      for_body (Link target) is = ap (with_left n) is
      for_body (Other face inner) is = other_same (g.parses (g.kind_of face) && not mode.create) root name n (Refused ObjectTypeMismatch) end refl is

      go : (t : Bool) (o : Option (Body F I)) → MatchBool t (end ≡ Refused ObjectPathSyntaxBad) (MatchOption o ⊥ (λ body. LooksFrom g s p mode zero root body name end))
          → MatchBool t (with_left n end ≡ Refused ObjectPathSyntaxBad) (MatchOption o ⊥ (λ body. LooksFrom g s p mode n root body name (with_left n end)))
      go true o is = ap (with_left n) is
      go false None is = is
      go false (Some body) looks = for_body body looks

  -- a lookup in place ends as one with any number of reparses left
  pub is_its_end : (n : ℕ) (root : Option ℕ) (name : List ℕ) (end look : Look) → LooksInPlace g s p mode root name end → LooksUp g s p mode n root name look → with_left n end ≡ look
  is_its_end n root name end look in_place looks = looks_up_unique g s p mode n root name (with_left n end) look (more n root name end in_place.1 in_place.0) looks

  -- so what is refused there is refused at its end
  pub is_refused_then : (refuses : Look → Bool) → IgnoresLeft refuses → (n : ℕ) (root : Option ℕ) (name : List ℕ) (end look : Look)
      → LooksInPlace g s p mode root name end → LooksUp g s p mode n root name look → refuses end ≡ true → refuses look ≡ true
  is_refused_then refuses ignores n root name end look in_place looks refused =
      ap refuses (sym (is_its_end n root name end look in_place looks)) ∙ ignores n end ∙ refused

  module _ (root : Option ℕ) (name : List ℕ) (refuses : Look → Bool) (ignores : IgnoresLeft refuses) (at : Option ℕ) (is_root : root_of s p root ≡ Some at) where
    -- where a lookup may want memory, no name is refused in place
    pub none_refused : ((end : Look) → LooksUp g s p mode zero at name end → MayWantMemory end) → IsNameRefused g s p mode root name refuses → ⊥
    none_refused wants (from, same, (end, (looks, apart), refused)) =
        apart (wants end (subst (λ (x : Option ℕ). LooksUp g s p mode zero x name end) (some_is from at (sym same ∙ is_root)) looks))

    -- and where a lookup with any number of reparses left ends, the name is refused there
    pub at_its_end : (n : ℕ) (look : Look) → LooksUp g s p mode n at name look → IsNameRefused g s p mode root name refuses → refuses look ≡ true
    at_its_end n look looked (from, same, (end, (looks, apart), refused)) =
        let there = subst (λ (x : Option ℕ). LooksUp g s p mode zero x name end) (some_is from at (sym same ∙ is_root)) looks in
        is_refused_then refuses ignores n at name end look (there, apart) looked refused

    pub end_refused : (n : ℕ) (look : Look) → LooksUp g s p mode n at name look → (refuses look ≡ true → ⊥) → IsNameRefused g s p mode root name refuses → ⊥
    end_refused n look looked passes refused = passes (at_its_end n look looked refused)

-- neither an open nor a create is refused by the reparses that are left
module _ {K T F I : Type 0} (g : Procedures K T F I) (s : State K T F I) (p attrs : ℕ) where
  pub open_ignores : (wanted : Wanted K) → IgnoresLeft (is_open_refused_at g s p attrs wanted)
  open_ignores wanted n (At o) = refl
  open_ignores wanted n (Vacant d c) = refl
  open_ignores wanted n (Parse o rest m) = refl
  open_ignores wanted n (Refused status) = refl

  pub create_ignores : (making : Making K) → IgnoresLeft (is_create_refused_at g s p attrs making)
  create_ignores making n (At o) = refl
  create_ignores making n (Vacant d c) = refl
  create_ignores making n (Parse o rest m) = refl
  create_ignores making n (Refused status) = refl
