-- The output of a run of a script with workers.
--
-- Source: this profile.
use Rattle.std.specs.Prelude.{◌≡◌, ◌≢◌, ◌<◌, ◌⊎◌, ℕ, false, List, [], ◌∷◌, ◌++◌, length, Option, Result, Err, IfOk, IfErr, IfSome, IsErr, IsErrOf, codes}
use Rattle.std.specs.Io.KnownBytes.{Appends}
use Rattle.ob_entries.specs.Lines.{journal_lines}
use Rattle.ob_lines.specs.Lines.{lines_of}
use Rattle.ob_model.specs.Run.{Run}
use Rattle.ob_output.specs.Printed.{output_line}
use Rattle.ob_entries.specs.Segments.{Segment, AreSealed, joined, open_after}
use Rattle.ob_standard.specs.Standard.{Standard, StandardKind, standard}
use Rattle.ob_standard_core.specs.Machine.{Space}
use Rattle.ob_output.specs.declared.fault.ShellFault.{ShellFault}
use Rattle.ob_output.specs.declared.fault.ShellFault.TheVariants as fault
use Rattle.ob_output.specs.declared.reading.TheConstants.{SCRIPT_LIMIT}
use Rattle.ob_output.specs.Fault.{is_unwritten}
use Rattle.ob_output.specs.Writing.{AppendsFront}
use Rattle.ob_worker_lines.specs.Cuts.{IsBadLine}
use Rattle.ob_seats.specs.declared.stop.Stop.{Stop}
use Rattle.ob_seats.specs.declared.stop.Stop.TheVariants.{Memory, Refused}
use Rattle.ob_seats.specs.Received.{Entries}
use Rattle.ob_threads.specs.declared.ends.ThreadsEnding.{ThreadsEnding}
use Rattle.ob_threads.specs.declared.ends.ThreadsEnding.TheVariants as ending
use Rattle.ob_threads.specs.Played.{IsPlayed}
use Rattle.ob_threads.specs.Run.{IsRunTo}

-- The journal of a run of the machine, written for so many seats: its sealed segments, and the open one after them.
pub record IsJournal (seats : ℕ) (journal : Entries) (text : List ℕ) : Type 0 where
  pub first : Standard
  pub state : Space
  pub run : Run standard first journal state
  pub sealed : List (Segment StandardKind)
  pub unsealed : Entries
  pub order : AreSealed 1 1 sealed
  pub whole : journal ≡ joined sealed ++ unsealed
  pub lines : text ≡ journal_lines standard.type_name seats (sealed ++ open_after sealed unsealed ∷ [])

-- the journal of a run of a script, of which a stop at this line is reported, for this reason
abbrev pub IsStoppedOutput : List ℕ → Stop → ℕ → List ℕ → Type 0
IsStoppedOutput script why line text =
    (seats : ℕ) × (journal : Entries) × IsJournal seats journal text × IsRunTo (lines_of script) journal seats (Err (record { line = line; why = why }))

-- The output of a script that ended so: the journal of its run, which is what the script plays where all its lines were run, and else what its seats ran
-- before they stopped; or the one line that says which line of it is bad.
abbrev pub IsOutput : List ℕ → ThreadsEnding → List ℕ → Type 0
IsOutput script ending.Done text = (seats : ℕ) × (journal : Entries) × IsJournal seats journal text × IsPlayed (lines_of script) journal seats
IsOutput script (ending.BadLine number) text = IsBadLine (lines_of script) number × (text ≡ output_line number (codes "not a script line"))
IsOutput script (ending.NoMemoryAt number) text = IsStoppedOutput script Memory number text
IsOutput script (ending.RefusedAt number) text = IsStoppedOutput script Refused number text

-- it was written
abbrev pub Writes : Option (List ℕ) → Option (List ℕ) → List ℕ → ThreadsEnding → Type 0
Writes old new script end = (text : List ℕ) × IsOutput script end text × Appends old new text

-- where a fault cut a text off, a beginning of it was written, and not all of it
abbrev pub IsCutOff : ShellFault → Option (List ℕ) → Option (List ℕ) → List ℕ → Type 0
IsCutOff (fault.Write unwritten) old new text = AppendsFront old new text
IsCutOff fault.Memory old new text = AppendsFront old new text
IsCutOff (fault.Read unread) old new text = ⊥
IsCutOff fault.TooLong old new text = ⊥
IsCutOff fault.Mismatch old new text = ⊥

-- The bytes that were written after a fault: if a write failed, or out of memory, a beginning of an output of the
-- script; else nothing.
abbrev pub WritesPart : ShellFault → Option (List ℕ) → Option (List ℕ) → List ℕ → Type 0
WritesPart fault old new script = (new ≡ old) ⊎ ((text : List ℕ) × (end : ThreadsEnding) × IsOutput script end text × IsCutOff fault old new text)

-- The run of a script with workers on the input: what was written is an output of the script that ended so, or a beginning of one; a script
-- that is too long isn't run, and no other is called so.
pub record IsWritten (outcome : Result ThreadsEnding ShellFault) (input written written' : Option (List ℕ)) : Type 0 where
  pub whole : IfOk outcome (λ ending. IfSome input (λ script. Writes written written' script ending))
  pub part : IfErr outcome (λ f. IfSome input (λ script. WritesPart f written written' script))
  pub unwritten : IfErr outcome (λ f. is_unwritten f ≡ false → f ≢ fault.Memory → written' ≡ written)
  pub too_long : IsErrOf outcome fault.TooLong → IfSome input (λ script. SCRIPT_LIMIT < length script)
  pub refused : IfSome input (λ script. SCRIPT_LIMIT < length script → IsErr outcome)
