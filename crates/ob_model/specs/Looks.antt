-- Looking a name up: what is done where a walk stops, links followed and not followed, reparses
-- counted, and what a lookup ends with.
--
-- Sources: Windows Internals, Object Manager (symbolic links, parse methods); OBJECT_ATTRIBUTES
-- structure (OBJ_OPENLINK, root directory). The refusals and their order, the limit of 32 reparses
-- and what a create does at a link or a parsing object are this profile.
use Rattle.ob_model.specs.declared.terms.Mode.{Mode}
use Rattle.std.specs.Prelude.{◌≡◌, ℕ, zero, suc, Bool, true, false, ◌&&◌, not, ◌==◌, nat_lt, if◌then◌else◌, List, [], ◌∷◌, length, Option, None, Some, codes, MatchOption, MatchBool}
use Rattle.std.specs.Str.{bytes_eq}
use Rattle.ob_base.specs.declared.status.Status.{Status}
use Rattle.ob_base.specs.declared.status.Status.TheVariants.{ObjectNameInvalid, ObjectPathNotFound, ObjectNameNotFound, ObjectTypeMismatch, ObjectPathSyntaxBad, NameTooLong, ReparseLimit}
use Rattle.ob_model.specs.declared.state.Body.{Body}
use Rattle.ob_model.specs.declared.state.Body.TheVariants.{Directory, Link, Other}
use Rattle.ob_model.specs.Names.{longest_name, substituted, begins_with_separator}
use Rattle.ob_model.specs.State.{State, root_id, body_of}
use Rattle.ob_model.specs.Paths.{Origin, IsReach, IsMiss, origin_of, relative}
use Rattle.ob_model.specs.Procedures.{Procedures}

-- what a lookup ends with: an object, a vacant place (its directory and its component), a parsing
-- object with the rest for its parse and the reparses left, or a refusal
pub data Look : Type 0 where
  At : ℕ → Look
  Vacant : ℕ → List ℕ → Look
  Parse : ℕ → List ℕ → ℕ → Look
  Refused : Status → Look

-- the most reparses of one lookup, links and parse answers together: a name begins with all of them
abbrev pub most_reparses : ℕ
most_reparses = 32

-- where a walk stops: it misses a component in a directory, which is the last one or not, or it
-- reaches an object with a rest
pub data Stop : Type 0 where
  Missed : ℕ → List ℕ → Bool → Stop
  Reached : ℕ → List ℕ → Stop

-- what then is to be done: the lookup is over, or a link's target is followed, with the rest
pub data Next : Type 0 where
  Over : Look → Next
  Follow : List ℕ → List ℕ → Next

-- no component, no directory to look further in, or no last component: a create finds the place
-- vacant, but the root directory has no entry of its own called `??`
abbrev pub at_miss : Mode → ℕ → List ℕ → Bool → Next
at_miss mode d [] last = Over (Refused ObjectNameInvalid)
at_miss mode d (b ∷ bs) false = Over (Refused ObjectPathNotFound)
at_miss mode d (b ∷ bs) true =
    if not mode.create then Over (Refused ObjectNameNotFound)
    else if (d == root_id) && bytes_eq (b ∷ bs) (codes "??") then Over (Refused ObjectNameInvalid)
    else Over (Vacant d (b ∷ bs))

-- an object that is no directory is what was named where nothing is left of the name
abbrev pub named_or_mismatch : ℕ → List ℕ → Look
named_or_mismatch o [] = At o
named_or_mismatch o (b ∷ bs) = Refused ObjectTypeMismatch

-- a link is what was named where nothing is left of the name and the last component isn't
-- followed; else its target is followed
abbrev pub at_link : Mode → ℕ → List ℕ → List ℕ → Next
at_link mode o target [] = if mode.follow && not mode.create then Follow target [] else Over (At o)
at_link mode o target (b ∷ bs) = Follow target (b ∷ bs)

module _ {K T F I : Type 0} (g : Procedures K T F I) where
  -- an open hands the rest to the parse of a parsing object; a create never parses
  abbrev pub at_other : Mode → ℕ → F → List ℕ → ℕ → Look
  at_other mode o face rest n =
      if g.parses (g.kind_of face) && not mode.create then Parse o rest n else named_or_mismatch o rest

  abbrev pub at_body : Mode → ℕ → Body F I → List ℕ → ℕ → Next
  at_body mode o (Directory shadow) rest n = Over (At o)
  at_body mode o (Link target) rest n = at_link mode o target rest
  at_body mode o (Other face inner) rest n = Over (at_other mode o face rest n)

  -- what is to be done at a stop, with n reparses left
  abbrev pub IsNext : State K T F I → Mode → ℕ → Stop → Next → Type 0
  IsNext s mode n (Missed d c last) next = next ≡ at_miss mode d c last
  IsNext s mode n (Reached o rest) next = MatchOption (body_of s o) ⊥ (λ body. next ≡ at_body mode o body rest n)

module _ {K T F I : Type 0} where
  -- the walk over the text from this origin stops so
  abbrev pub IsStop : State K T F I → Origin → List ℕ → (create fold : Bool) → Stop → Type 0
  IsStop s place text create fold (Missed d c last) = IsMiss s place text create fold d c last
  IsStop s place text create fold (Reached o rest) = IsReach s place text create fold o rest

  -- a text that a reparse made, looked up again from its origin: too long, no origin, or the lookup
  -- that goes on from there
  abbrev pub Again : State K T F I → ℕ → Mode → List ℕ → (Origin → List ℕ → Type 0) → (Status → Type 0) → Type 0
  Again s p mode text goes_on is_refused =
      MatchBool (nat_lt longest_name (length text)) (is_refused NameTooLong)
      (MatchOption (origin_of s p mode.create text) (is_refused ObjectPathSyntaxBad) (λ at. goes_on at.0 at.1))

-- the lookup ends so where this is to be done next, given how a followed link ends it
abbrev pub Ends : Next → (List ℕ → List ℕ → Type 0) → Look → Type 0
Ends (Over end) followed look = look ≡ end
Ends (Follow target rest) followed look = followed target rest

module _ {K T F I : Type 0} (g : Procedures K T F I) where
  -- from this origin the text is looked up with this end, with n reparses left: the walk stops, and
  -- the lookup is over there, or it follows a link, which takes one of the reparses
  abbrev pub Looks : State K T F I → ℕ → Mode → ℕ → Origin → List ℕ → Look → Type 0
  Looks s p mode zero place text look =
      (stop : Stop) × (next : Next) × IsStop s place text mode.create mode.fold stop × IsNext g s mode zero stop next
      × Ends next (λ target rest. look ≡ Refused ReparseLimit) look
  Looks s p mode (suc n) place text look =
      (stop : Stop) × (next : Next) × IsStop s place text mode.create mode.fold stop × IsNext g s mode (suc n) stop next
      × Ends next (λ target rest. Again s p mode (substituted target rest) (λ place' text'. Looks s p mode n place' text' look) (λ status. look ≡ Refused status)) look

  -- what a name relative to an object of this body is looked up with, with n reparses left: a
  -- directory is where the walk begins, an open hands the name as it is to the parse of a parsing
  -- object
  abbrev pub LooksFrom : State K T F I → ℕ → Mode → ℕ → (root : ℕ) → Body F I → List ℕ → Look → Type 0
  LooksFrom s p mode n root (Directory shadow) name look = let at = relative root name in Looks s p mode n at.0 at.1 look
  LooksFrom s p mode n root (Link target) name look = look ≡ Refused ObjectTypeMismatch
  LooksFrom s p mode n root (Other face inner) name look =
      look ≡ (if g.parses (g.kind_of face) && not mode.create then Parse root name n else Refused ObjectTypeMismatch)

  -- a name is looked up with this end, with n reparses left: from its origin where it is absolute,
  -- else from the object of the root handle; a relative name doesn't begin with a separator
  abbrev pub LooksUp : State K T F I → ℕ → Mode → ℕ → (root : Option ℕ) → List ℕ → Look → Type 0
  LooksUp s p mode n None name look =
      MatchOption (origin_of s p mode.create name) (look ≡ Refused ObjectPathSyntaxBad) (λ at. Looks s p mode n at.0 at.1 look)
  LooksUp s p mode n (Some root) name look =
      MatchBool (begins_with_separator name) (look ≡ Refused ObjectPathSyntaxBad) (MatchOption (body_of s root) ⊥ (λ body. LooksFrom s p mode n root body name look))
