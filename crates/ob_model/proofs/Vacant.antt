-- What the end of a lookup is good for: a vacant place is told to a create, in a directory in which nothing
-- is found under the component and which may have an entry of that name, and an object parses for an open
-- alone, and its kind does. A create that begins in a view walks more than one component, so that no place is
-- vacant in a view itself.
use Rattle.std.proofs.Common.{◌≡◌, ◌≢◌, ℕ, zero, suc, ◌==◌, Bool, true, false, ◌&&◌, not, List, [], ◌∷◌, length, drop, refl, ◌∙◌, sym, subst, inl, inr, ◌⊎◌, nat_eq, eq-eqb, ap}
use Rattle.std.specs.Prelude.{codes, if◌then◌else◌, nat_lt, Option, None, Some, MatchOption, MatchBool}
use Rattle.std.specs.Option.{option_map, option_and_then}
use Rattle.std.specs.List.{starts_with}
use Rattle.std.specs.Str.{bytes_eq}
use Rattle.ob_base.specs.declared.status.Status.{Status}
use Rattle.ob_base.specs.declared.status.Status.TheVariants.{ObjectNameInvalid, ObjectNameNotFound, ObjectPathSyntaxBad, ObjectTypeMismatch, NameTooLong, ReparseLimit}
use Rattle.ob_model.specs.declared.state.Body.{Body}
use Rattle.ob_model.specs.declared.state.Body.TheVariants.{Directory, Link, Other}
use Rattle.ob_model.specs.declared.state.Row.{Row}
use Rattle.ob_model.specs.Names.{longest_name, substituted, begins_with_separator, IsRest, IsSplit, next_component, after_component}
use Rattle.ob_model.specs.State.{State, root_id, is_directory, body_of}
use Rattle.ob_model.specs.PendingOpens.{face_in, face_of}
use Rattle.ob_model.specs.Sound.{is_barred}
use Rattle.ob_model.specs.Paths.{Origin, InDirectory, ViewOf, IsPath, entry, found, local, place_behind, origin_of, is_one_component}
use Rattle.ob_model.specs.Procedures.{Procedures}
use Rattle.ob_model.specs.declared.terms.Mode.{Mode}
use Rattle.ob_model.specs.Looks.{Look, At, Vacant, Parse, Refused, Stop, Missed, Reached, Next, Over, Follow, at_miss, at_link, named_or_mismatch, at_body, IsNext, IsStop, Again, Ends, Looks, LooksFrom, LooksUp}

-- an object is one of the set, of a kind that parses
abbrev pub IsParsing : {K T F I : Type 0} → Procedures K T F I → State K T F I → ℕ → Type 0
IsParsing g s o = MatchOption (face_of s o) ⊥ (λ face. g.parses (g.kind_of face) ≡ true)

module _ {K T F I : Type 0} (g : Procedures K T F I) (s : State K T F I) (mode : Mode) where
  -- a vacant place is told to a create, in a directory in which nothing is found under the component and
  -- which may have an entry of that name; an object that parses is told to an open
  abbrev pub IsUsableEnd : Look → Type 0
  IsUsableEnd (At o) = Unit {0}
  IsUsableEnd (Vacant d c) = (mode.create ≡ true) × (is_directory s d ≡ true) × (found s d c mode.fold ≡ None) × (is_barred d c ≡ false)
  IsUsableEnd (Parse o rest n) = (mode.create ≡ false) × IsParsing g s o
  IsUsableEnd (Refused status) = Unit {0}

  -- the same of what is to be done next, where the lookup is over
  abbrev IsUsableNext : Next → Type 0
  IsUsableNext (Over look) = IsUsableEnd look
  IsUsableNext (Follow target rest) = Unit {0}

-- an option whose image is none is none
none_of : {X Y : Type 0} (f : X → Y) (o : Option X) → option_map f o ≡ None → o ≡ None
none_of f None h = refl
none_of f (Some x) h = cc

-- two facts, and three, as one test
both : (a b : Bool) → a ≡ true → b ≡ true → a && b ≡ true
both true true h k = refl
both true false h k = cc
both false b h k = cc

nonempty : (c : List ℕ) → c ≢ [] → not (bytes_eq c []) ≡ true
nonempty [] some = absurd (some refl)
nonempty (b ∷ bs) some = refl

begins : (rest : List ℕ) → IsRest rest → rest ≢ [] → begins_with_separator rest ≡ true
begins [] bounded some = absurd (some refl)
begins (b ∷ bs) bounded some = eq-eqb b 92 bounded

-- a rest whose first component is the last one is one component
is_one : (rest : List ℕ) → IsRest rest → rest ≢ [] → next_component rest ≢ [] → bytes_eq (after_component rest) [] ≡ true → is_one_component rest ≡ true
is_one rest bounded some component last =
    both (begins_with_separator rest && not (bytes_eq (next_component rest) [])) (bytes_eq (after_component rest) [])
    (both (begins_with_separator rest) (not (bytes_eq (next_component rest) [])) (begins rest bounded some) (nonempty (next_component rest) component)) last

-- where a walk of a create may begin: in a view only with a text that isn't one component
abbrev IsFit : Bool → Origin → List ℕ → Type 0
IsFit create (InDirectory d) text = Unit {0}
IsFit create (ViewOf q) text = create && is_one_component text ≡ false

abbrev IsFitOrigin : Bool → Option (Origin × List ℕ) → Type 0
IsFitOrigin create None = Unit {0}
IsFitOrigin create (Some at) = IsFit create at.0 at.1

-- so it is of each absolute text
fit_origin : {K T F I : Type 0} (s : State K T F I) (p : ℕ) (create : Bool) (text : List ℕ) → IsFitOrigin create (origin_of s p create text)
fit_origin s p create text = go (bytes_eq text (codes "\\")) (bytes_eq text (codes "\\??")) (starts_with nat_eq text (codes "\\??\\")) (begins_with_separator text)
  where
    nothing : (create : Bool) → create && is_one_component [] ≡ false
    nothing true = refl
    nothing false = refl

    below : (one : Bool) → (create && is_one_component (drop 3 text)) ≡ one → IsFit create (if one then InDirectory (local s p) else ViewOf p) (drop 3 text)
    below true e = tt
    below false e = e

    go : (is_root is_view below_view is_absolute : Bool) → IsFitOrigin create
        (if is_root then Some (InDirectory root_id, [])
        else if is_view then Some (ViewOf p, [])
        else if below_view then Some (if create && is_one_component (drop 3 text) then InDirectory (local s p) else ViewOf p, drop 3 text)
        else if is_absolute then Some (InDirectory root_id, text)
        else None)
    go true is_view below_view is_absolute = tt
    go false true below_view is_absolute = nothing create
    go false false true is_absolute = below (create && is_one_component (drop 3 text)) refl
    go false false false true = tt
    go false false false false = tt

module _ {K T F I : Type 0} (g : Procedures K T F I) (s : State K T F I) (p : ℕ) (mode : Mode) where
  -- what a create misses from a fit place as the last component is not found where it was missed
  not_found : (place : Origin) (text : List ℕ) (cs : List (List ℕ)) (rest : List ℕ) (d : ℕ) (c : List ℕ)
      → IsFit mode.create place text → IsSplit text cs rest → rest ≢ [] → IsPath s place cs false mode.fold d → c ≡ next_component rest
      → entry s (place_behind place cs d) c true mode.fold ≡ None → c ≢ [] → mode.create ≡ true → bytes_eq (after_component rest) [] ≡ true → found s d c mode.fold ≡ None
  not_found (InDirectory root) text [] rest d c fit split some path is none component create last =
      subst (λ (n : ℕ). found s n c mode.fold ≡ None) (sym path) (none_of (λ (r : Row). r.object) (found s root c mode.fold) none)
  not_found (InDirectory root) text (x ∷ xs) rest d c fit split some path is none component create last = none_of (λ (r : Row). r.object) (found s d c mode.fold) none
  not_found (ViewOf q) text (x ∷ xs) rest d c fit split some path is none component create last = none_of (λ (r : Row). r.object) (found s d c mode.fold) none
  not_found (ViewOf q) text [] rest d c fit split some path is none component create last =
      let one : is_one_component text ≡ true = subst (λ (t : List ℕ). is_one_component t ≡ true) (sym split.whole) (is_one rest split.bounded some (λ e. component (is ∙ e)) last) in
      let unfit : mode.create && is_one_component text ≡ true = both mode.create (is_one_component text) create one in
      absurd (cc)

  -- so that a miss of the last component is a vacant place for a create
  usable_miss : (d : ℕ) (c : List ℕ) (last : Bool) → is_directory s d ≡ true → (c ≢ [] → mode.create ≡ true → last ≡ true → found s d c mode.fold ≡ None) → IsUsableNext g s mode (at_miss mode d c last)
  usable_miss d [] last inside free = tt
  usable_miss d (b ∷ bs) false inside free = tt
  usable_miss d (b ∷ bs) true inside free = go mode.create ((d == root_id) && bytes_eq (b ∷ bs) (codes "??")) refl refl
    where
      go : (create other : Bool) → mode.create ≡ create → is_barred d (b ∷ bs) ≡ other
          → IsUsableNext g s mode (if not create then Over (Refused ObjectNameNotFound) else if other then Over (Refused ObjectNameInvalid) else Over (Vacant d (b ∷ bs)))
      go false other e f = tt
      go true true e f = tt
      go true false e f = (e, inside, free (λ empty. cc) e refl, f)

  usable_named : (o : ℕ) (rest : List ℕ) → IsUsableEnd g s mode (named_or_mismatch o rest)
  usable_named o [] = tt
  usable_named o (b ∷ bs) = tt

  usable_link : (o : ℕ) (target rest : List ℕ) → IsUsableNext g s mode (at_link mode o target rest)
  usable_link o target [] = go (mode.follow && not mode.create)
    where
      go : (follows : Bool) → IsUsableNext g s mode (if follows then Follow target [] else Over (At o))
      go true = tt
      go false = tt
  usable_link o target (b ∷ bs) = tt

  parsing : (o : ℕ) (face : F) (inner : I) → body_of s o ≡ Some (Other face inner) → g.parses (g.kind_of face) ≡ true → IsParsing g s o
  parsing o face inner is parses = subst (λ (b : Option (Body F I)). MatchOption (option_and_then face_in b) ⊥ (λ face. g.parses (g.kind_of face) ≡ true)) (sym is) parses

  -- an object of the set is what was named, or parses for an open
  usable_other : (o : ℕ) (face : F) (inner : I) (rest : List ℕ) (n : ℕ) (otherwise : Look) → body_of s o ≡ Some (Other face inner) → IsUsableEnd g s mode otherwise
      → IsUsableEnd g s mode (if g.parses (g.kind_of face) && not mode.create then Parse o rest n else otherwise)
  usable_other o face inner rest n otherwise is usable = go (g.parses (g.kind_of face)) mode.create refl refl
    where
      go : (parses create : Bool) → g.parses (g.kind_of face) ≡ parses → mode.create ≡ create → IsUsableEnd g s mode (if parses && not create then Parse o rest n else otherwise)
      go true false e f = (f, parsing o face inner is e)
      go true true e f = usable
      go false create e f = usable

  usable_body : (o : ℕ) (body : Body F I) (rest : List ℕ) (n : ℕ) → body_of s o ≡ Some body → IsUsableNext g s mode (at_body g mode o body rest n)
  usable_body o (Directory shadow) rest n is = tt
  usable_body o (Link target) rest n is = usable_link o target rest
  usable_body o (Other face inner) rest n is = usable_other o face inner rest n (named_or_mismatch o rest) is (usable_named o rest)

  usable_next : (place : Origin) (text : List ℕ) (n : ℕ) (stop : Stop) (next : Next) → IsFit mode.create place text
      → IsStop s place text mode.create mode.fold stop → IsNext g s mode n stop next → IsUsableNext g s mode next
  usable_next place text n (Missed d c last) next fit stop h = subst (IsUsableNext g s mode) (sym h) (usable_miss d c last stop.5 (free stop.7))
    where
      free : (c ≡ []) ⊎ (entry s (place_behind place stop.0 d) c (last && mode.create) mode.fold ≡ None) → c ≢ [] → mode.create ≡ true → last ≡ true → found s d c mode.fold ≡ None
      free (inl empty) some create is_last = absurd (some empty)
      free (inr none) some create is_last =
          not_found place text stop.0 stop.1 d c fit stop.2 stop.3 stop.4 stop.6
          (ap (λ (x : Bool). entry s (place_behind place stop.0 d) c x mode.fold) (sym (both last mode.create is_last create)) ∙ none) some create (sym stop.8 ∙ is_last)
  usable_next place text n (Reached o rest) next fit stop h = go (body_of s o) refl h
    where
      go : (body : Option (Body F I)) → body_of s o ≡ body → MatchOption body ⊥ (λ body. next ≡ at_body g mode o body rest n) → IsUsableNext g s mode next
      go None e h = absurd h
      go (Some body) e h = subst (IsUsableNext g s mode) (sym h) (usable_body o body rest n e)

  -- a refusal is usable
  usable_refusal : (look : Look) (status : Status) → look ≡ Refused status → IsUsableEnd g s mode look
  usable_refusal look status h = subst (IsUsableEnd g s mode) (sym h) tt

  -- what a lookup ends with where it is over, or follows a link
  usable_ends : (next : Next) (followed : List ℕ → List ℕ → Type 0) (look : Look) → IsUsableNext g s mode next → ((target rest : List ℕ) → followed target rest → IsUsableEnd g s mode look) → Ends next followed look → IsUsableEnd g s mode look
  usable_ends (Over end) followed look usable goes h = subst (IsUsableEnd g s mode) (sym h) usable
  usable_ends (Follow target rest) followed look usable goes h = goes target rest h

  usable_origin : (text : List ℕ) (Goes : Origin × List ℕ → Type 0) (look : Look)
      → ((at : Origin × List ℕ) → IsFit mode.create at.0 at.1 → Goes at → IsUsableEnd g s mode look)
      → MatchOption (origin_of s p mode.create text) (look ≡ Refused ObjectPathSyntaxBad) Goes → IsUsableEnd g s mode look
  usable_origin text Goes look goes h = go (origin_of s p mode.create text) (fit_origin s p mode.create text) h
    where
      go : (o : Option (Origin × List ℕ)) → IsFitOrigin mode.create o → MatchOption o (look ≡ Refused ObjectPathSyntaxBad) Goes → IsUsableEnd g s mode look
      go None fit h = usable_refusal look ObjectPathSyntaxBad h
      go (Some at) fit h = goes at fit h

  usable_again : (text : List ℕ) (Goes : Origin → List ℕ → Type 0) (look : Look)
      → ((place : Origin) (rest : List ℕ) → IsFit mode.create place rest → Goes place rest → IsUsableEnd g s mode look)
      → Again s p mode text Goes (λ status. look ≡ Refused status) → IsUsableEnd g s mode look
  usable_again text Goes look goes h = go (nat_lt longest_name (length text)) h
    where
      go : (long : Bool) → MatchBool long (look ≡ Refused NameTooLong) (MatchOption (origin_of s p mode.create text) (look ≡ Refused ObjectPathSyntaxBad) (λ at. Goes at.0 at.1)) → IsUsableEnd g s mode look
      go true h = usable_refusal look NameTooLong h
      go false h = usable_origin text (λ at. Goes at.0 at.1) look (λ at fit k. goes at.0 at.1 fit k) h

  usable_looks : (n : ℕ) (place : Origin) (text : List ℕ) (look : Look) → IsFit mode.create place text → Looks g s p mode n place text look → IsUsableEnd g s mode look
  usable_looks zero place text look fit h =
      usable_ends h.1 (λ target rest. look ≡ Refused ReparseLimit) look (usable_next place text zero h.0 h.1 fit h.2 h.3) (λ target rest told. usable_refusal look ReparseLimit told) h.4
  usable_looks (suc n) place text look fit h =
      usable_ends h.1 (λ target rest. Again s p mode (substituted target rest) (λ place' text'. Looks g s p mode n place' text' look) (λ status. look ≡ Refused status)) look
      (usable_next place text (suc n) h.0 h.1 fit h.2 h.3)
      (λ target rest again. usable_again (substituted target rest) (λ place' text'. Looks g s p mode n place' text' look) look
      (λ place' text' fit' goes. usable_looks n place' text' look fit' goes) again) h.4

  usable_from : (n root : ℕ) (body : Body F I) (name : List ℕ) (look : Look) → body_of s root ≡ Some body → LooksFrom g s p mode n root body name look → IsUsableEnd g s mode look
  usable_from n root (Directory shadow) [] look is h = usable_looks n (InDirectory root) [] look tt h
  usable_from n root (Directory shadow) (b ∷ bs) look is h = usable_looks n (InDirectory root) _ look tt h
  usable_from n root (Link target) name look is h = usable_refusal look ObjectTypeMismatch h
  usable_from n root (Other face inner) name look is h = subst (IsUsableEnd g s mode) (sym h) (usable_other root face inner name n (Refused ObjectTypeMismatch) is tt)

  -- the end of the lookup of a name is usable
  pub usable_end : (n : ℕ) (root : Option ℕ) (name : List ℕ) (look : Look) → LooksUp g s p mode n root name look → IsUsableEnd g s mode look
  usable_end n None name look h = usable_origin name (λ at. Looks g s p mode n at.0 at.1 look) look (λ at fit k. usable_looks n at.0 at.1 look fit k) h
  usable_end n (Some root) name look h = go (begins_with_separator name) h
    where
      there : (body : Option (Body F I)) → body_of s root ≡ body → MatchOption body ⊥ (λ body. LooksFrom g s p mode n root body name look) → IsUsableEnd g s mode look
      there None is h = absurd h
      there (Some body) is h = usable_from n root body name look is h

      go : (separated : Bool) → MatchBool separated (look ≡ Refused ObjectPathSyntaxBad) (MatchOption (body_of s root) ⊥ (λ body. LooksFrom g s p mode n root body name look)) → IsUsableEnd g s mode look
      go true h = usable_refusal look ObjectPathSyntaxBad h
      go false h = there (body_of s root) refl h
