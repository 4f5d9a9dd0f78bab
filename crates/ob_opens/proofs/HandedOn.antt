-- A lookup hands on no more reparses than it has, and a text that is looked up again fewer.
use Rattle.std.proofs.Common.{◌≡◌, ℕ, zero, suc, ◌<◌, ◌≤◌, ◌==◌, Bool, true, false, ◌&&◌, not, List, [], ◌∷◌, length, sym, subst, arith}
use Rattle.std.specs.Prelude.{codes, if◌then◌else◌, nat_lt, Option, None, Some, MatchOption, MatchBool}
use Rattle.std.specs.Str.{bytes_eq}
use Rattle.ob_base.specs.declared.status.Status.{Status}
use Rattle.ob_base.specs.declared.status.Status.TheVariants.{ObjectNameInvalid, ObjectNameNotFound, ObjectPathSyntaxBad, NameTooLong, ReparseLimit}
use Rattle.ob_model.specs.declared.state.Body.{Body}
use Rattle.ob_model.specs.declared.state.Body.TheVariants.{Directory, Link, Other}
use Rattle.ob_model.specs.declared.terms.Mode.{Mode}
use Rattle.ob_model.specs.Looks.{Look, At, Vacant, Parse, Refused, Stop, Missed, Reached, Next, Over, Follow, at_miss, at_link, at_other, named_or_mismatch, at_body, IsNext, Again, Ends, Looks}
use Rattle.ob_model.specs.Names.{longest_name, substituted}
use Rattle.ob_model.specs.Parses.{LooksAgain}
use Rattle.ob_model.specs.Paths.{Origin, origin_of}
use Rattle.ob_model.specs.Procedures.{Procedures}
use Rattle.ob_model.specs.State.{State, root_id, body_of}

-- a lookup hands on no more than so many reparses
abbrev pub HandsOn : ℕ → Look → Type 0
HandsOn most (At o) = Unit {0}
HandsOn most (Vacant d c) = Unit {0}
HandsOn most (Parse o rest n) = n ≤ most
HandsOn most (Refused status) = Unit {0}

abbrev NextHandsOn : ℕ → Next → Type 0
NextHandsOn most (Over look) = HandsOn most look
NextHandsOn most (Follow target rest) = Unit {0}

more_is_allowed : (n : ℕ) (look : Look) → HandsOn n look → HandsOn (suc n) look
more_is_allowed n (At o) h = tt
more_is_allowed n (Vacant d c) h = tt
more_is_allowed n (Parse o rest m) h = omega (arith, h)
more_is_allowed n (Refused status) h = tt

module _ {K T F I : Type 0} (g : Procedures K T F I) (s : State K T F I) (p : ℕ) (mode : Mode) where
  refused : (n : ℕ) (look : Look) (status : Status) → look ≡ Refused status → HandsOn n look
  refused n look status h = subst (HandsOn n) (sym h) tt

  at_a_miss : (n d : ℕ) (c : List ℕ) (last : Bool) → NextHandsOn n (at_miss mode d c last)
  at_a_miss n d [] last = tt
  at_a_miss n d (b ∷ bs) false = tt
  at_a_miss n d (b ∷ bs) true = go mode.create ((d == root_id) && bytes_eq (b ∷ bs) (codes "??"))
    where
      go : (create barred : Bool) → NextHandsOn n
          (if not create then Over (Refused ObjectNameNotFound)
          else if barred then Over (Refused ObjectNameInvalid)
          else Over (Vacant d (b ∷ bs)))
      go false barred = tt
      go true true = tt
      go true false = tt

  at_named : (n o : ℕ) (rest : List ℕ) → HandsOn n (named_or_mismatch o rest)
  at_named n o [] = tt
  at_named n o (b ∷ bs) = tt

  at_a_link : (n o : ℕ) (target rest : List ℕ) → NextHandsOn n (at_link mode o target rest)
  at_a_link n o target [] = go (mode.follow && not mode.create)
    where
      go : (follows : Bool) → NextHandsOn n (if follows then Follow target [] else Over (At o))
      go true = tt
      go false = tt
  at_a_link n o target (b ∷ bs) = tt

  at_an_other : (o : ℕ) (face : F) (rest : List ℕ) (n : ℕ) → HandsOn n (at_other g mode o face rest n)
  at_an_other o face rest n = go (g.parses (g.kind_of face) && not mode.create)
    where
      go : (parses : Bool) → HandsOn n (if parses then Parse o rest n else named_or_mismatch o rest)
      go true = omega arith
      go false = at_named n o rest

  at_a_body : (o : ℕ) (body : Body F I) (rest : List ℕ) (n : ℕ) → NextHandsOn n (at_body g mode o body rest n)
  at_a_body o (Directory shadow) rest n = tt
  at_a_body o (Link target) rest n = at_a_link n o target rest
  at_a_body o (Other face inner) rest n = at_an_other o face rest n

  next_hands_on : (n : ℕ) (stop : Stop) (next : Next) → IsNext g s mode n stop next → NextHandsOn n next
  next_hands_on n (Missed d c last) next h = subst (NextHandsOn n) (sym h) (at_a_miss n d c last)
  next_hands_on n (Reached o rest) next h = go (body_of s o) h
    where
      go : (body : Option (Body F I)) → MatchOption body ⊥ (λ body. next ≡ at_body g mode o body rest n) → NextHandsOn n next
      go None h = absurd h
      go (Some body) h = subst (NextHandsOn n) (sym h) (at_a_body o body rest n)

  ends_hand_on : (n : ℕ) (next : Next) (followed : List ℕ → List ℕ → Type 0) (look : Look) → NextHandsOn n next
      → ((target rest : List ℕ) → followed target rest → HandsOn n look) → Ends next followed look → HandsOn n look
  ends_hand_on n (Over end) followed look is goes h = subst (HandsOn n) (sym h) is
  ends_hand_on n (Follow target rest) followed look is goes h = goes target rest h

  again_hands_on : (n : ℕ) (text : List ℕ) (Goes : Origin → List ℕ → Type 0) (look : Look)
      → ((place : Origin) (rest : List ℕ) → Goes place rest → HandsOn n look) → Again s p mode text Goes (λ status. look ≡ Refused status) → HandsOn n look
  again_hands_on n text Goes look goes h = go (nat_lt longest_name (length text)) (origin_of s p mode.create text) h
    where
      go : (long : Bool) (o : Option (Origin × List ℕ))
          → MatchBool long (look ≡ Refused NameTooLong) (MatchOption o (look ≡ Refused ObjectPathSyntaxBad) (λ at. Goes at.0 at.1)) → HandsOn n look
      go true o h = refused n look NameTooLong h
      go false None h = refused n look ObjectPathSyntaxBad h
      go false (Some at) h = goes at.0 at.1 h

  pub looks_hand_on : (n : ℕ) (place : Origin) (text : List ℕ) (look : Look) → Looks g s p mode n place text look → HandsOn n look
  looks_hand_on zero place text look h =
      ends_hand_on zero h.1 (λ target rest. look ≡ Refused ReparseLimit) look (next_hands_on zero h.0 h.1 h.3) (λ target rest told. refused zero look ReparseLimit told) h.4
  looks_hand_on (suc n) place text look h =
      ends_hand_on (suc n) h.1 (λ target rest. Again s p mode (substituted target rest) (λ place' text'. Looks g s p mode n place' text' look) (λ status. look ≡ Refused status)) look
      (next_hands_on (suc n) h.0 h.1 h.3)
      (λ target rest again. more_is_allowed n look
      (again_hands_on n (substituted target rest) (λ place' text'. Looks g s p mode n place' text' look) look (λ place' text' goes. looks_hand_on n place' text' look goes) again)) h.4

  -- a text that is looked up again hands on fewer
  pub again_hands_on_fewer : (left : ℕ) (text : List ℕ) (o : ℕ) (rest : List ℕ) (m : ℕ) → LooksAgain g s p mode left text (Parse o rest m) → m < left
  again_hands_on_fewer zero text o rest m h = cc
  again_hands_on_fewer (suc n) text o rest m h =
      let most : m ≤ n = again_hands_on n text (λ place rest'. Looks g s p mode n place rest' (Parse o rest m)) (Parse o rest m) (λ place rest' goes. looks_hand_on n place rest' (Parse o rest m) goes) h in
      omega (arith, most)
