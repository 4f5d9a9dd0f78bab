-- Lookups of the core: what they rest on, and what their ends are good for.
use Rattle.std.specs.Prelude.{◌≡◌, ℕ, true, false, List, Option, MatchOption}
use Rattle.ob_model.specs.declared.state.PendingOpen.{PendingOpen}
use Rattle.ob_model.specs.State.{State}
use Rattle.ob_model.specs.PendingOpens.{face_of}
use Rattle.ob_model.specs.Procedures.{Procedures}
use Rattle.ob_model.specs.Sound.{Stands}
use Rattle.ob_model.specs.declared.terms.Mode.{Mode}
use Rattle.ob_model.specs.Looks.{Look, At, Vacant, Parse, Refused}
use Rattle.ob_space.specs.Placing.{IsVacant}

module _ {K T F I : Type 0} where
  -- the object of a root handle, where one is given, is there
  abbrev pub IsRoot : State K T F I → Option ℕ → Type 0
  IsRoot s root = MatchOption root (Unit {0}) (Stands s)

  -- the state with these opens pending in place of its own
  abbrev pub with_these_opens : State K T F I → List (PendingOpen K) → State K T F I
  with_these_opens s opens = record s { pending = opens }

module _ {K T F I : Type 0} (g : Procedures K T F I) where
  -- an object is one of the set, of a kind that parses
  abbrev pub IsParsing : State K T F I → ℕ → Type 0
  IsParsing s o = MatchOption (face_of s o) ⊥ (λ face. g.parses (g.kind_of face) ≡ true)

  -- a vacant place is given to a create, and a name may be put there; an object that parses is given to an open
  abbrev pub IsUsable : State K T F I → Mode → Look → Type 0
  IsUsable s mode (At o) = Unit {0}
  IsUsable s mode (Vacant d c) = (mode.create ≡ true) × IsVacant s d c
  IsUsable s mode (Parse o rest n) = (mode.create ≡ false) × IsParsing s o
  IsUsable s mode (Refused status) = Unit {0}
