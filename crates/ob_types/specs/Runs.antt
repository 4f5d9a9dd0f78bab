-- Parse runs: what one answer makes of a run, and what holds of the ends of runs.
use Rattle.std.specs.Prelude.{◌≡◌, ℕ, List, true, MatchOption}
use Rattle.ob_model.specs.Procedures as model
use Rattle.ob_model.specs.Procedures.{Procedures, ParseOutcome, ParseEnds}
use Rattle.ob_types.specs.declared.run.Outcome.{Outcome}
use Rattle.ob_types.specs.declared.run.Step.{Step}
use Rattle.ob_types.specs.declared.run.Step.TheVariants.{Over, Onward}
use Rattle.ob_types.specs.Parsing.{outcome_of, IfMade}

module _ {F I : Type 0} where
  -- it is the end with this face and this inner value, or memory runs out
  abbrev pub IsMadeOf : Outcome F I → F → I → Type 0
  IsMadeOf outcome face inner = MatchOption (outcome_of outcome) (Unit {0}) (λ end. end ≡ model.EndsMade face inner)

  -- the fact holds of the next face and of what is left of the rest, where the run goes on
  abbrev pub IfOnward : Step F I → (F → List ℕ → Type 0) → Type 0
  IfOnward (Over outcome) P = Unit {0}
  IfOnward (Onward next left) P = P next left.now

  -- the fact holds of the face and the inner value, where the run is over with an instance
  abbrev pub IfStepMade : Step F I → (F → I → Type 0) → Type 0
  IfStepMade (Over outcome) P = IfMade outcome P
  IfStepMade (Onward next left) P = Unit {0}

module _ {K T F I : Type 0} (g : Procedures K T F I) where
  -- the run from a face over a rest goes on with the next face, which parses, over what is left
  pub record GoesOn (face : F) (rest : List ℕ) (next : F) (left : List ℕ) : Type 0 where
    pub parses : g.parses (g.kind_of next) ≡ true
    pub ends : (end : ParseOutcome F I) → ParseEnds g next left end → ParseEnds g face rest end

  -- where the answer of a face leads the run from it over a rest
  abbrev pub Leads : F → List ℕ → Step F I → Type 0
  Leads face rest (Over outcome) = MatchOption (outcome_of outcome) (Unit {0}) (λ end. ParseEnds g face rest end)
  Leads face rest (Onward next left) = GoesOn face rest next left.now

  -- a run has one end
  abbrev pub RunsHaveOneEnd : Type 0
  RunsHaveOneEnd = (face : F) (rest : List ℕ) (a b : ParseOutcome F I) → ParseEnds g face rest a → ParseEnds g face rest b → a ≡ b

  -- an end of the run from a face is one of the run from each face that is found the same
  abbrev pub SameFacesEndAlike : Type 0
  SameFacesEndAlike = (a b : F) (rest : List ℕ) (end : ParseOutcome F I) → g.same_face a b ≡ true → ParseEnds g a rest end → ParseEnds g b rest end
