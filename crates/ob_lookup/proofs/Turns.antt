-- A lookup ends as the turn at its first stop does.
use Rattle.std.proofs.Common.{◌≡◌, ℕ, zero, suc, ◌-◌, ◌<◌, Bool, true, false, ◌&&◌, not, nat_lt, if◌then◌else◌, List, [], length, Option, MatchOption, MatchBool, Result, Ok, Err, IfOk, OnErr, refl, ap, sym, subst, arith}
use Rattle.ob_base.specs.declared.status.Status.TheVariants.{NameTooLong, ReparseLimit}
use Rattle.ob_model.specs.declared.state.Body.{Body}
use Rattle.ob_model.specs.Names.{longest_name, substituted}
use Rattle.ob_model.specs.State.{State}
use Rattle.ob_model.specs.Paths.{Origin}
use Rattle.ob_model.specs.Procedures.{Procedures}
use Rattle.ob_model.specs.Looks as machine
use Rattle.ob_model.specs.declared.terms.Mode.{Mode}
use Rattle.ob_model.proofs.Lookup.{looks_up_unique}
use Rattle.ob_lookup.specs.declared.next.Next.{Next}
use Rattle.ob_lookup.specs.declared.next.Next.TheVariants as next
use Rattle.ob_lookup.specs.declared.walk.Stop.{Stop}
use Rattle.ob_lookup.specs.declared.walk.Stop.TheVariants.{Missed, Directory, Link, Other}
use Rattle.ob_lookup.specs.Walk.{stop_of, Meets}
use Rattle.ob_lookup.specs.Look.{other_at, next_at, Turn, Ended, Restarted, turn_at, turn_of, MayWantMemory, TurnMayWantMemory, IfAgain, LooksAgain, Goes}

-- what follows of a value
pub if_ok : {X E : Type 0} (P Q : X → Type 0) (r : Result X E) → ((x : X) → P x → Q x) → IfOk r P → IfOk r Q
if_ok P Q (Ok x) follows h = follows x h
if_ok P Q (Err e) follows h = h

pub if_again : (found : Next) (P Q : Type 0) → (P → Q) → IfAgain found P → IfAgain found Q
if_again (next.Over end) P Q follows h = h
if_again (next.Again text) P Q follows h = follows h

pub from_again : (found : Next) (text : List ℕ) (P : Type 0) → found ≡ next.Again text → IfAgain found P → P
from_again (next.Over end) text P e h = cc
from_again (next.Again again) text P e h = h

pub on_any_err : {X E : Type 0} (P : Type 0) (r : Result X E) → P → OnErr r P
on_any_err P (Ok x) h = tt
on_any_err P (Err e) h = h

pub on_err : {X E : Type 0} (P Q : Type 0) (r : Result X E) → (P → Q) → OnErr r P → OnErr r Q
on_err P Q (Ok x) follows h = h
on_err P Q (Err e) follows h = follows h

-- a text is looked up again only where a reparse is left
pub again_left : (found : Next) (n : ℕ) (what : machine.Next) → turn_of found ≡ turn_at n what → IfAgain found (0 < n)
again_left (next.Over end) n what e = tt
again_left (next.Again text) (suc n) what e = omega arith
again_left (next.Again text) zero (machine.Over end) e = cc
again_left (next.Again text) zero (machine.Follow target rest) e = cc

-- and with none left it would have been refused
pub again_wants : (found : Next) (n : ℕ) (what : machine.Next) → turn_of found ≡ turn_at n what → IfAgain found (TurnMayWantMemory (turn_at 0 what))
again_wants (next.Over end) n what e = tt
again_wants (next.Again text) n (machine.Over end) e = absurd (over_ends n e)
  where
    over_ends : (m : ℕ) → Restarted text ≡ turn_at m (machine.Over end) → ⊥
    over_ends zero e = cc
    over_ends (suc m) e = cc
again_wants (next.Again text) n (machine.Follow target rest) e = refl

-- where the lookup is over nothing is looked up again
over_never : (found : Next) (n : ℕ) (end : machine.Look) (P : Type 0) → turn_of found ≡ turn_at n (machine.Over end) → IfAgain found P
over_never (next.Over x) n end P e = tt
over_never (next.Again text) zero end P e = cc
over_never (next.Again text) (suc n) end P e = cc

-- with none left it would have been refused, whichever stop it is
pub stop_wants : (found : Next) (mode : Mode) (n : ℕ) (stop : Stop) → turn_of found ≡ turn_at n (next_at mode n stop) → IfAgain found (TurnMayWantMemory (turn_at 0 (next_at mode 0 stop)))
stop_wants found mode n (Missed directory component last) e = again_wants found n (machine.at_miss mode directory component last) e
stop_wants found mode n (Directory id) e = over_never found n (machine.At id) (TurnMayWantMemory (turn_at 0 (machine.Over (machine.At id)))) e
stop_wants found mode n (Link id target rest) e = again_wants found n (machine.at_link mode id target rest) e
stop_wants found mode n (Other id rest parses) e =
    over_never found n (other_at (parses && not mode.create) id rest n) (TurnMayWantMemory (turn_at 0 (machine.Over (other_at (parses && not mode.create) id rest 0)))) e

module _ {K T F I : Type 0} (g : Procedures K T F I) (s : State K T F I) (p : ℕ) (mode : Mode) where
  -- what is to be done at a stop
  next_is : (n : ℕ) (stop : Stop) → Meets g s stop → machine.IsNext g s mode n (stop_of stop) (next_at mode n stop)
  next_is n (Missed directory component last) meets = refl
  next_is n (Directory id) meets = subst (λ (o : Option (Body F I)). MatchOption o ⊥ (λ body. machine.Over (machine.At id) ≡ machine.at_body g mode id body [] n)) (sym meets.1) refl
  next_is n (Link id target rest) meets =
      subst (λ (o : Option (Body F I)). MatchOption o ⊥ (λ body. machine.at_link mode id target rest ≡ machine.at_body g mode id body rest n)) (sym meets) refl
  next_is n (Other id rest parses) (face, inner, meets, is) =
      subst (λ (o : Option (Body F I)). MatchOption o ⊥ (λ body. machine.Over (other_at (parses && not mode.create) id rest n) ≡ machine.at_body g mode id body rest n)) (sym meets)
      (ap (λ (b : Bool). machine.Over (other_at (b && not mode.create) id rest n)) is)

  -- the turn that comes of it ends the lookup
  ends_last : (what : machine.Next) (end : machine.Look) → Goes g s p mode zero (turn_at zero what) end
      → machine.Ends what (λ target rest. end ≡ machine.Refused ReparseLimit) end
  ends_last (machine.Over found) end goes = goes
  ends_last (machine.Follow target rest) end goes = goes

  ends_more : (n : ℕ) (what : machine.Next) (end : machine.Look) → Goes g s p mode (suc n) (turn_at (suc n) what) end
      → machine.Ends what (λ target rest. machine.Again s p mode (substituted target rest) (λ place text. machine.Looks g s p mode n place text end) (λ status. end ≡ machine.Refused status)) end
  ends_more n (machine.Over found) end goes = goes
  ends_more n (machine.Follow target rest) end goes = go (nat_lt longest_name (length (substituted target rest))) goes
    where
      one_less : suc n - 1 ≡ n
      one_less = omega arith

      go : (t : Bool) → Goes g s p mode (suc n) (if t then Ended (machine.Refused NameTooLong) else Restarted (substituted target rest)) end
          → MatchBool t (end ≡ machine.Refused NameTooLong) (LooksAgain g s p mode n (substituted target rest) end)
      go true h = h
      go false h = subst (λ (m : ℕ). LooksAgain g s p mode m (substituted target rest) end) one_less h

  -- so does a lookup whose walk stops there
  pub looks_by_turn : (n : ℕ) (place : Origin) (text : List ℕ) (stop : Stop) (end : machine.Look)
      → machine.IsStop s place text mode.create mode.fold (stop_of stop) → Meets g s stop
      → Goes g s p mode n (turn_at n (next_at mode n stop)) end → machine.Looks g s p mode n place text end
  looks_by_turn zero place text stop end stops meets goes = (stop_of stop, next_at mode zero stop, stops, next_is zero stop meets, ends_last (next_at mode zero stop) end goes)
  looks_by_turn (suc n) place text stop end stops meets goes = (stop_of stop, next_at mode (suc n) stop, stops, next_is (suc n) stop meets, ends_more n (next_at mode (suc n) stop) end goes)

  -- with no reparse left it has an end for which memory may be wanted, where the turn there is one
  pub wants_by_turn : (place : Origin) (text : List ℕ) (stop : Stop) → machine.IsStop s place text mode.create mode.fold (stop_of stop) → Meets g s stop
      → TurnMayWantMemory (turn_at 0 (next_at mode 0 stop)) → (end : machine.Look) × MayWantMemory end × machine.Looks g s p mode 0 place text end
  wants_by_turn place text stop stops meets wants = go (turn_at 0 (next_at mode 0 stop)) refl wants
    where
      go : (turn : Turn) → turn_at 0 (next_at mode 0 stop) ≡ turn → TurnMayWantMemory turn → (end : machine.Look) × MayWantMemory end × machine.Looks g s p mode 0 place text end
      go (Ended end) e wants = (end, wants, looks_by_turn 0 place text stop end stops meets (subst (λ (turn : Turn). Goes g s p mode 0 turn end) (sym e) refl))
      go (Restarted text) e wants = absurd wants

-- the end of a name with no reparse left is its only one
pub only_wants : {K T F I : Type 0} (g : Procedures K T F I) (s : State K T F I) (p : ℕ) (mode : Mode) (root : Option ℕ) (name : List ℕ) (end found : machine.Look)
    → machine.LooksUp g s p mode 0 root name end → machine.LooksUp g s p mode 0 root name found → MayWantMemory found → MayWantMemory end
only_wants g s p mode root name end found looks looked wants = subst MayWantMemory (looks_up_unique g s p mode 0 root name found end looked looks) wants
