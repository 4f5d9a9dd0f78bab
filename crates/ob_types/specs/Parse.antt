-- A parse outside of the namespace: as it is taken out, and as it is brought back with its end.
--
-- Sources: Windows Internals, Object Manager (parse methods). That a parse is run between two steps, and who it
-- is taken for, is this profile.
use Rattle.std.specs.Prelude.{◌≡◌, ℕ, true, List, Option, None, Some, MatchOption}
use Rattle.ob_model.specs.declared.state.PendingOpen.{PendingOpen}
use Rattle.ob_model.specs.Procedures.{Procedures, ParseOutcome, EndsItself, EndsMade, EndsReparse, EndsRefused, ParseEnds}

-- a parse that is to be run: the ticket of the open that waits for it, the face of the object that the open
-- pins, and what follows that object in the name
pub record ToRun (F : Type 0) : Type 0 where
  pub ticket : ℕ
  pub face : F
  pub rest : List ℕ

-- a parse that was run, with what it ended with: none where memory ran out
pub record HasRun (F I : Type 0) : Type 0 where
  pub ticket : ℕ
  pub face : F
  pub rest : List ℕ
  pub outcome : Option (ParseOutcome F I)

-- what a parse that was run was asked
abbrev pub asked_of : {F I : Type 0} → HasRun F I → ToRun F
asked_of run = record { ticket = run.ticket; face = run.face; rest = run.rest }

-- the fact holds of the face and the inner value, where a parse ended with an instance that it made
abbrev pub IfMadeNew : {F I : Type 0} → Option (ParseOutcome F I) → (F → I → Type 0) → Type 0
IfMadeNew None P = Unit {0}
IfMadeNew (Some EndsItself) P = Unit {0}
IfMadeNew (Some (EndsMade face inner)) P = P face inner
IfMadeNew (Some (EndsReparse text)) P = Unit {0}
IfMadeNew (Some (EndsRefused k)) P = Unit {0}

module _ {K T F I : Type 0} (g : Procedures K T F I) where
  -- the parse of a face over a rest ended with this, or found no memory
  abbrev pub EndsOrWants : F → List ℕ → Option (ParseOutcome F I) → Type 0
  EndsOrWants face rest outcome = MatchOption outcome (Unit {0}) (λ end. ParseEnds g face rest end)

  -- This holds of a parse that was run: the kind of its face parses, its outcome is the end of that parse,
  -- and what it made counts no open handle.
  pub record IsRun (Idle : I → Type 0) (face : F) (rest : List ℕ) (outcome : Option (ParseOutcome F I)) : Type 0 where
    pub parses : g.parses (g.kind_of face) ≡ true
    pub ends : EndsOrWants face rest outcome
    pub idle : IfMadeNew outcome (λ _ inner. Idle inner)

  -- A parse is the one that a pending open waits for, where the object that the open pins has the face `pinned`:
  -- it is under the ticket of the open and over its rest, and its face is found the same as that one.
  pub record IsFor (asked : ToRun F) (x : PendingOpen K) (pinned : F) : Type 0 where
    pub ticket : asked.ticket ≡ x.ticket
    pub rest : asked.rest ≡ x.rest
    pub face : g.same_face asked.face pinned ≡ true
