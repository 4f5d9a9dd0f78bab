-- What the lookup of an open's name ends with: never with a vacant place, and with a parse only of an object that
-- is there.
use Rattle.std.proofs.Common.{◌≡◌, ℕ, zero, suc, ◌==◌, Bool, true, false, ◌&&◌, not, List, [], ◌∷◌, length, refl, sym, subst}
use Rattle.std.specs.Prelude.{codes, if◌then◌else◌, nat_lt, Option, None, Some, MatchOption, MatchBool}
use Rattle.std.specs.Option.{option_map, is_some}
use Rattle.std.specs.Str.{bytes_eq}
use Rattle.ob_base.specs.declared.status.Status.{Status}
use Rattle.ob_base.specs.declared.status.Status.TheVariants.{ObjectNameInvalid, ObjectNameNotFound, ObjectPathSyntaxBad, ObjectTypeMismatch, NameTooLong, ReparseLimit}
use Rattle.ob_model.specs.declared.state.Body.{Body}
use Rattle.ob_model.specs.declared.state.Body.TheVariants.{Directory, Link, Other}
use Rattle.ob_model.specs.declared.state.Object.{Object}
use Rattle.ob_model.specs.Names.{longest_name, substituted, begins_with_separator}
use Rattle.ob_model.specs.State.{State, root_id, object_of, body_of}
use Rattle.ob_model.specs.Sound.{Stands}
use Rattle.ob_model.specs.Paths.{Origin, origin_of, relative}
use Rattle.ob_model.specs.Procedures.{Procedures}
use Rattle.ob_model.specs.declared.terms.Mode.{Mode}
use Rattle.ob_model.specs.Looks.{Look, At, Vacant, Parse, Refused, Stop, Missed, Reached, Next, Over, Follow, at_miss, at_link, at_other, named_or_mismatch, at_body, IsNext, Again, Ends, Looks, LooksFrom, LooksUp}
use Rattle.ob_model.specs.Parses.{LooksAgain}

module _ {K T F I : Type 0} (s : State K T F I) where
  abbrev pub IsOpenEnd : Look → Type 0
  IsOpenEnd (At o) = Unit {0}
  IsOpenEnd (Vacant d c) = ⊥
  IsOpenEnd (Parse o rest n) = Stands s o
  IsOpenEnd (Refused status) = Unit {0}

  abbrev IsOpenNext : Next → Type 0
  IsOpenNext (Over look) = IsOpenEnd look
  IsOpenNext (Follow target rest) = Unit {0}

-- what has a body stands
body_stands : {K T F I : Type 0} (s : State K T F I) (o : ℕ) (body : Body F I) → body_of s o ≡ Some body → Stands s o
body_stands {K} {T} {F} {I} s o body e = go (object_of s o) e
  where
    go : (found : Option (Object F I)) → option_map (λ x. x.body) found ≡ Some body → is_some found ≡ true
    go None e = cc
    go (Some x) e = refl

module _ {K T F I : Type 0} (g : Procedures K T F I) (s : State K T F I) (p : ℕ) (mode : Mode) (opens : mode.create ≡ false) where
  end_refused : (look : Look) (status : Status) → look ≡ Refused status → IsOpenEnd s look
  end_refused look status h = subst (IsOpenEnd s) (sym h) tt

  end_miss : (d : ℕ) (c : List ℕ) (last : Bool) → IsOpenNext s (at_miss mode d c last)
  end_miss d [] last = tt
  end_miss d (b ∷ bs) false = tt
  end_miss d (b ∷ bs) true =
      subst
      (λ create. IsOpenNext s
      (if not create then Over (Refused ObjectNameNotFound)
      else if (d == root_id) && bytes_eq (b ∷ bs) (codes "??") then Over (Refused ObjectNameInvalid)
      else Over (Vacant d (b ∷ bs)))) (sym opens) tt

  end_named : (o : ℕ) (rest : List ℕ) → IsOpenEnd s (named_or_mismatch o rest)
  end_named o [] = tt
  end_named o (b ∷ bs) = tt

  end_link : (o : ℕ) (target rest : List ℕ) → IsOpenNext s (at_link mode o target rest)
  end_link o target [] = go (mode.follow && not mode.create)
    where
      go : (follows : Bool) → IsOpenNext s (if follows then Follow target [] else Over (At o))
      go true = tt
      go false = tt
  end_link o target (b ∷ bs) = tt

  end_other : (o : ℕ) (face : F) (rest : List ℕ) (n : ℕ) → Stands s o → IsOpenEnd s (at_other g mode o face rest n)
  end_other o face rest n stands = go (g.parses (g.kind_of face) && not mode.create)
    where
      go : (parses : Bool) → IsOpenEnd s (if parses then Parse o rest n else named_or_mismatch o rest)
      go true = stands
      go false = end_named o rest

  end_body : (o : ℕ) (body : Body F I) (rest : List ℕ) (n : ℕ) → Stands s o → IsOpenNext s (at_body g mode o body rest n)
  end_body o (Directory shadow) rest n stands = tt
  end_body o (Link target) rest n stands = end_link o target rest
  end_body o (Other face inner) rest n stands = end_other o face rest n stands

  end_next : (n : ℕ) (stop : Stop) (next : Next) → IsNext g s mode n stop next → IsOpenNext s next
  end_next n (Missed d c last) next h = subst (IsOpenNext s) (sym h) (end_miss d c last)
  end_next n (Reached o rest) next h = go (body_of s o) refl h
    where
      go : (body : Option (Body F I)) → body_of s o ≡ body → MatchOption body ⊥ (λ body. next ≡ at_body g mode o body rest n) → IsOpenNext s next
      go None e h = absurd h
      go (Some body) e h = subst (IsOpenNext s) (sym h) (end_body o body rest n (body_stands s o body e))

  end_ends : (next : Next) (followed : List ℕ → List ℕ → Type 0) (look : Look) → IsOpenNext s next → ((target rest : List ℕ) → followed target rest → IsOpenEnd s look) → Ends next followed look → IsOpenEnd s look
  end_ends (Over end) followed look is goes h = subst (IsOpenEnd s) (sym h) is
  end_ends (Follow target rest) followed look is goes h = goes target rest h

  end_origin : (o : Option (Origin × List ℕ)) (Goes : Origin × List ℕ → Type 0) (look : Look)
      → ((at : Origin × List ℕ) → Goes at → IsOpenEnd s look) → MatchOption o (look ≡ Refused ObjectPathSyntaxBad) Goes → IsOpenEnd s look
  end_origin None Goes look goes h = end_refused look ObjectPathSyntaxBad h
  end_origin (Some at) Goes look goes h = goes at h

  end_again : (text : List ℕ) (Goes : Origin → List ℕ → Type 0) (look : Look)
      → ((place : Origin) (rest : List ℕ) → Goes place rest → IsOpenEnd s look) → Again s p mode text Goes (λ status. look ≡ Refused status) → IsOpenEnd s look
  end_again text Goes look goes h = go (nat_lt longest_name (length text)) h
    where
      go : (long : Bool) → MatchBool long (look ≡ Refused NameTooLong) (MatchOption (origin_of s p mode.create text) (look ≡ Refused ObjectPathSyntaxBad) (λ at. Goes at.0 at.1)) → IsOpenEnd s look
      go true h = end_refused look NameTooLong h
      go false h = end_origin (origin_of s p mode.create text) (λ at. Goes at.0 at.1) look (λ at k. goes at.0 at.1 k) h

  end_looks : (n : ℕ) (place : Origin) (text : List ℕ) (look : Look) → Looks g s p mode n place text look → IsOpenEnd s look
  end_looks zero place text look h =
      end_ends h.1 (λ target rest. look ≡ Refused ReparseLimit) look (end_next zero h.0 h.1 h.3) (λ target rest told. end_refused look ReparseLimit told) h.4
  end_looks (suc n) place text look h =
      end_ends h.1 (λ target rest. Again s p mode (substituted target rest) (λ place' text'. Looks g s p mode n place' text' look) (λ status. look ≡ Refused status)) look
      (end_next (suc n) h.0 h.1 h.3)
      (λ target rest again. end_again (substituted target rest) (λ place' text'. Looks g s p mode n place' text' look) look (λ place' text' goes. end_looks n place' text' look goes) again) h.4

  -- a text that is looked up again
  pub again_end : (n : ℕ) (text : List ℕ) (look : Look) → LooksAgain g s p mode n text look → IsOpenEnd s look
  again_end zero text look h = end_refused look ReparseLimit h
  again_end (suc n) text look h = end_again text (λ place rest. Looks g s p mode n place rest look) look (λ place rest goes. end_looks n place rest look goes) h

  end_from : (n root : ℕ) (body : Body F I) (name : List ℕ) (look : Look) → Stands s root → LooksFrom g s p mode n root body name look → IsOpenEnd s look
  end_from n root (Directory shadow) name look stands h = end_looks n (relative root name).0 (relative root name).1 look h
  end_from n root (Link target) name look stands h = end_refused look ObjectTypeMismatch h
  end_from n root (Other face inner) name look stands h = subst (IsOpenEnd s) (sym h) (go (g.parses (g.kind_of face) && not mode.create))
    where
      go : (parses : Bool) → IsOpenEnd s (if parses then Parse root name n else Refused ObjectTypeMismatch)
      go true = stands
      go false = tt

  -- a name that is looked up
  pub open_end : (n : ℕ) (root : Option ℕ) (name : List ℕ) (look : Look) → LooksUp g s p mode n root name look → IsOpenEnd s look
  open_end n None name look h = end_origin (origin_of s p mode.create name) (λ at. Looks g s p mode n at.0 at.1 look) look (λ at k. end_looks n at.0 at.1 look k) h
  open_end n (Some root) name look h = go (begins_with_separator name) h
    where
      there : (body : Option (Body F I)) → body_of s root ≡ body → MatchOption body ⊥ (λ body. LooksFrom g s p mode n root body name look) → IsOpenEnd s look
      there None e h = absurd h
      there (Some body) e h = end_from n root body name look (body_stands s root body e) h

      go : (separated : Bool) → MatchBool separated (look ≡ Refused ObjectPathSyntaxBad) (MatchOption (body_of s root) ⊥ (λ body. LooksFrom g s p mode n root body name look)) → IsOpenEnd s look
      go true h = end_refused look ObjectPathSyntaxBad h
      go false h = there (body_of s root) refl h
