-- The opens that wait under the variables of a script, as a session keeps them.
--
-- Source: this profile.
use Rattle.std.specs.Prelude.{◌≡◌, ℕ, true, List, ◌⊎◌, Some, Result, Ok, Err}
use Rattle.std.specs.Str.{bytes_eq}
use Rattle.ob_model.specs.declared.state.PendingOpen.{PendingOpen}
use Rattle.ob_model.specs.PendingOpens.{face_of, pending_of}
use Rattle.ob_standard.specs.Standard.{StandardKind, Standard, StandardFace, standard, IsFresh}
use Rattle.ob_model.specs.Opening.{opening}
use Rattle.ob_runner.specs.Begun.{AreAwaited, tickets_of}
use Rattle.ob_runner.specs.declared.begun.Begun.{Begun}
use Rattle.ob_runner.specs.declared.begun.Begun.TheVariants as begun
use Rattle.ob_effects.specs.declared.session.Session.{Session}
use Rattle.ob_effects.specs.declared.outcome.LineOutcome.{LineOutcome}
use Rattle.ob_effects.specs.declared.outcome.LineOutcome.TheVariants as outcome
use Rattle.ob_requests.specs.Tables.{variables_in}
use Rattle.ob_requests.specs.Variables.{Variables, first_variables}
use Rattle.ob_standard_core.specs.Machine.{Space}
use Rattle.ob_effects.specs.Waiting.{AreTickets}

-- an open of a process waits under a ticket, for the parse of an object whose kind parses
abbrev pub WaitsUnder : Space → ℕ → ℕ → Type 0
WaitsUnder s n process =
    (x : PendingOpen StandardKind) × (face : StandardFace) × (pending_of s n ≡ Some x) × (face_of s x.object ≡ Some face)
    × (x.process ≡ process) × (standard.parses (standard.kind_of face) ≡ true)

-- no two variables have the same ticket
abbrev pub AreApart : (ℕ → List ℕ → ℕ) → Type 0
AreApart under = (p q : ℕ) (a b : List ℕ) → under p a ≡ under q b → (under p a ≡ 0) ⊎ ((p ≡ q) × (bytes_eq a b ≡ true))

-- These are the tickets of the opens that wait under variables: under each variable one of its own process does, and under no two
-- variables the same.
pub record AreWaiting (s : Space) (variables : Variables) (tickets : List ℕ) : Type 0 where
  pub listed : AreTickets variables.tickets tickets
  pub theirs : (process : ℕ) (variable : List ℕ) → (variables.tickets process variable ≡ 0) ⊎ WaitsUnder s (variables.tickets process variable) process
  pub apart : AreApart variables.tickets

-- the variables of a session's script, and the state of its namespace
abbrev pub variables_of : Session → Variables
variables_of session = variables_in session.variables

abbrev pub space_of : Session → Space
space_of session = session.core

-- The invariant of every session: its variables name the opens that wait, and each parse that it keeps is the one that an
-- open waits for.
pub record IsSession (session : Session) : Type 0 where
  pub waiting : AreWaiting (space_of session) (variables_of session) (tickets_of session.waits)
  pub awaited : AreAwaited (space_of session) session.waits

-- a session in which nothing was done
abbrev pub IsFirst : Session → Type 0
IsFirst session = (variables_of session ≡ first_variables) × ((first : Standard) × IsFresh first × (space_of session ≡ opening first))

-- what became of a line, by what became of its open; an error: it found no memory
abbrev pub outcome_of : {E : Type 0} → Result Begun E → LineOutcome
outcome_of (Ok (begun.Replied reply)) = outcome.Replied reply
outcome_of (Ok (begun.Waits n)) = outcome.Pending
outcome_of (Err fault) = outcome.NoMemory
