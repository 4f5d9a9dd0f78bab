-- The statements of the laws of whole runs, which the functions of this crate prove.
use Rattle.std.specs.Prelude.{◌≡◌, ℕ, List, ◌++◌, AllPairs, Contains, Option, Some, count_by, ◌==◌, ◌<◌}
use Rattle.ob_base.specs.declared.status.Status.TheVariants.{NoMoreEntries}
use Rattle.ob_model.specs.declared.state.Row.{Row}
use Rattle.ob_model.specs.State.{State}
use Rattle.ob_model.specs.Opening.{opening}
use Rattle.ob_model.specs.Procedures.{Procedures}
use Rattle.ob_model.specs.Enumeration.{Page}
use Rattle.ob_model.specs.Exclusive.{AreAlone}
use Rattle.ob_model.specs.Calls.{Passed, Passes, left_by, calls_of_run}
use Rattle.ob_model.specs.Lifetimes.{ClosesAreCounted, DeleteIsLast, StepKeepsCount, AtEachStep}
use Rattle.ob_model.specs.Scans.{Scans, StandAtTheirSteps, StandsThroughout, shown_in}

module _ (K T F I : Type 0) where
  -- what holds of the calls on one object in a run, and of the handles of exclusive objects after each of its steps
  pub record IsLifetime (first : T) (steps : List (Passed K T F I)) (o : ℕ) : Type 0 where
    pub counted : ClosesAreCounted (calls_of_run (opening first) steps o)
    pub deleted : DeleteIsLast (calls_of_run (opening first) steps o)
    pub kept : AtEachStep (StepKeepsCount o) (opening first) steps
    pub alone : AtEachStep (λ s x. AreAlone x.after) (opening first) steps

  abbrev pub Lifetimes : Type 0
  Lifetimes =
      (g : Procedures K T F I) (first : T) (steps : List (Passed K T F I)) (o : ℕ) → Passes g (opening first) 0 steps → IsLifetime first steps o

  -- This holds of a scan from the state s on. The entries that it shows have rising stamps, so no row is shown twice;
  -- each is of a row that is in the directory at its step; and once a page says that no entry is left, each row
  -- of the directory that stood throughout was shown exactly once.
  pub record IsWholeScan (g : Procedures K T F I) (s : State K T F I) (d : ℕ) (steps : List (Passed K T F I)) (pages : List (Option Page)) : Type 0 where
    pub rising : AllPairs (λ a b. a.stamp < b.stamp) (shown_in pages)
    pub standing : StandAtTheirSteps g s d steps pages
    pub once :
        (page : Page) → Contains pages (Some page) → page.status ≡ NoMoreEntries
        → (r : Row) → r.directory ≡ d → StandsThroughout r s steps → count_by (λ e. e.stamp == r.stamp) (shown_in pages) ≡ 1

  -- a scan that begins anywhere in a run
  abbrev pub ScansAreWhole : Type 0
  ScansAreWhole =
      (g : Procedures K T F I) (first : T) (before steps : List (Passed K T F I)) (d : ℕ) (pages : List (Option Page))
      → Passes g (opening first) 0 (before ++ steps) → Scans g (left_by (opening first) before) d steps pages
      → IsWholeScan g (left_by (opening first) before) d steps pages
