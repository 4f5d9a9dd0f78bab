-- The verdict on a journal that was read, and where it is written.
--
-- Source: this profile.
use Rattle.std.specs.Prelude.{◌≡◌, ◌≢◌, ◌<◌, ℕ, false, List, ◌++◌, length, Option, Result, IfOk, IfErr, IfSome, IsErr, IsErrOf, codes}
use Rattle.std.specs.Fmt.{decimal}
use Rattle.std.specs.Io.KnownBytes.{Appends}
use Rattle.ob_journal.specs.declared.report.Cause.{Cause}
use Rattle.ob_journal.specs.declared.report.Cause.TheVariants as cause
use Rattle.ob_journal.specs.declared.report.Report.{Report}
use Rattle.ob_journal.specs.Journal.{IsAccepted, StopsAt}
use Rattle.ob_output.specs.Fault.{is_unwritten}
use Rattle.ob_output.specs.Reading.{StopsLong}
use Rattle.ob_output.specs.Writing.{AppendsFront}
use Rattle.ob_output.specs.declared.fault.ShellFault.{ShellFault}
use Rattle.ob_output.specs.declared.fault.ShellFault.TheVariants as fault
use Rattle.ob_output.specs.declared.writing.Unwritten.{Unwritten}
use Rattle.ob_journal.specs.declared.verdict.Verdict.{Verdict}
use Rattle.ob_journal.specs.declared.verdict.Verdict.TheVariants as verdict
use Rattle.ob_journal.specs.declared.run.TheConstants.{JOURNAL_LIMIT}

-- the word of a cause
abbrev pub cause_text : Cause → List ℕ
cause_text cause.Header = codes "header"
cause_text cause.Syntax = codes "syntax"
cause_text cause.Number = codes "number"
cause_text cause.Seat = codes "seat"
cause_text cause.Ticket = codes "ticket"
cause_text cause.Reply = codes "reply"

-- the line of a journal that is accepted, by its entries
abbrev pub accepted_line : ℕ → List ℕ
accepted_line entries = codes "accepted " ++ decimal entries ++ codes " entries\n"

-- the line of a journal that is refused, by the line where it stops being that of a run, and why
abbrev pub refused_line : ℕ → Cause → List ℕ
refused_line number why = codes "line " ++ decimal number ++ codes ": " ++ cause_text why ++ codes "\n"

-- this line reports this verdict on a journal: it is that of a run, of so many entries; or it stops being so at a line
abbrev pub TellsVerdict : List ℕ → Verdict → List ℕ → Type 0
TellsVerdict journal verdict.Accepted line = (report : Report) × IsAccepted journal report × (line ≡ accepted_line report.entries)
TellsVerdict journal verdict.Refused line = (number : ℕ) × (why : Cause) × StopsAt journal number why × (line ≡ refused_line number why)

-- it was written
abbrev pub WritesVerdict : Option (List ℕ) → Option (List ℕ) → List ℕ → Verdict → Type 0
WritesVerdict old new journal told = (line : List ℕ) × TellsVerdict journal told line × Appends old new line

-- a beginning of it was written, and not all of it
abbrev pub WritesPart : Option (List ℕ) → Option (List ℕ) → List ℕ → Type 0
WritesPart old new journal = (told : Verdict) × (line : List ℕ) × TellsVerdict journal told line × AppendsFront old new line

-- The check of the journal on the input: what was written is the line of its verdict, or a beginning of it after a fault of writing,
-- or nothing after any other fault; a journal that is too long isn't checked, and no other is called so.
pub record Replays (outcome : Result Verdict ShellFault) (input written written' : Option (List ℕ)) : Type 0 where
  pub verdict : IfOk outcome (λ told. IfSome input (λ journal. WritesVerdict written written' journal told))
  pub part : (unwritten : Unwritten) → IsErrOf outcome (fault.Write unwritten) → IfSome input (λ journal. WritesPart written written' journal)
  pub unwritten : IfErr outcome (λ f. is_unwritten f ≡ false → written' ≡ written)
  pub too_long : IsErrOf outcome fault.TooLong → IfSome input (λ journal. JOURNAL_LIMIT < length journal)
  pub faults : IfErr outcome (λ f. f ≢ fault.Mismatch)
  pub refused : IfSome input (λ journal. JOURNAL_LIMIT < length journal → IsErr outcome)
  pub long : IfSome input (λ journal. JOURNAL_LIMIT < length journal → IfErr outcome StopsLong × (written' ≡ written))
