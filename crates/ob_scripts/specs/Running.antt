-- How a script is run: one line at a time.
--
-- Source: this profile.
use Rattle.std.specs.Prelude.{◌≡◌, ℕ, List, [], Option, Some, None, codes}
use Rattle.ob_effects.specs.declared.outcome.LineOutcome.{LineOutcome}
use Rattle.ob_effects.specs.declared.outcome.LineOutcome.TheVariants as outcome
use Rattle.ob_effects.specs.Effects.{notice_text}
use Rattle.ob_scripts.specs.declared.run.Ending.{Ending}
use Rattle.ob_scripts.specs.declared.run.Ending.TheVariants as ending
use Rattle.ob_output.specs.Printed.{output_line, reply_text, counts_text}
use Rattle.ob_scripts.specs.Shown.{Plays, PlaysFirst, PlaysPartTo}
use Rattle.ob_output.specs.Gathering.{Gathers}
use Rattle.ob_output.specs.declared.fault.ShellFault.{ShellFault}
use Rattle.ob_output.specs.declared.fault.ShellFault.TheVariants as fault

-- what the line of this number prints for it
abbrev pub outcome_text : ℕ → LineOutcome → List ℕ
outcome_text number outcome.Idle = []
outcome_text number (outcome.Counted counts) = output_line number (counts_text counts)
outcome_text number (outcome.Replied reply) = output_line number (reply_text reply)
outcome_text number outcome.Pending = output_line number (codes "PENDING")
outcome_text number (outcome.Told notice) = output_line number (notice_text notice)
outcome_text number outcome.NoLine = output_line number (codes "not a script line")
outcome_text number outcome.NoMemory = output_line number (codes "want of memory")

-- how it ends the run, where it does
abbrev pub outcome_end : ℕ → LineOutcome → Option Ending
outcome_end number outcome.Idle = None
outcome_end number (outcome.Counted counts) = None
outcome_end number (outcome.Replied reply) = None
outcome_end number outcome.Pending = None
outcome_end number (outcome.Told notice) = None
outcome_end number outcome.NoLine = Some (ending.BadLine number)
outcome_end number outcome.NoMemory = Some (ending.NoMemoryAt number)

-- what was gathered, of which a block has the rest, is what the script plays, and the run ended so; and
-- what its first lines play
abbrev pub GathersRun : Option (List ℕ) → Option (List ℕ) → List ℕ → List ℕ → Ending → Type 0
GathersRun old new script has end =
    (output : List ℕ) × Plays script output end × PlaysFirst script output end × Gathers old new [] output has

-- what a writer holds after a fault of a run of the script: a beginning of what it plays after a fault of
-- the writer, and no more than before if out of memory; no other fault comes
abbrev pub StopsPlaying : List ℕ → ShellFault → Option (List ℕ) → Option (List ℕ) → Type 0
StopsPlaying script (fault.Write unwritten) old new = PlaysPartTo old new script
StopsPlaying script fault.Memory old new = new ≡ old
StopsPlaying script (fault.Read unread) old new = ⊥
StopsPlaying script fault.TooLong old new = ⊥
StopsPlaying script fault.Mismatch old new = ⊥
