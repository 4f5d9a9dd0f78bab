-- The report on a script: a line of output for each of its lines that is wrong where it is.
--
-- Source: this profile.
use Rattle.std.specs.Prelude.{◌≡◌, ◌≢◌, ◌<◌, ◌⊎◌, ◌↔◌, ℕ, ◌+◌, false, List, [], ◌∷◌, ◌++◌, length, Option, Result, IfErr, IfOk, IfSome, IsErr, IsErrOf, codes}
use Rattle.std.specs.Fmt.{decimal}
use Rattle.std.specs.Io.KnownBytes.{Appends}
use Rattle.ob_lines.specs.declared.misfit.Misfit.{Misfit}
use Rattle.ob_lines.specs.Lines.{lines_of}
use Rattle.ob_output.specs.Fault.{is_unwritten}
use Rattle.ob_output.specs.Reading.{StopsLong}
use Rattle.ob_output.specs.Writing.{AppendsFront}
use Rattle.ob_output.specs.declared.fault.ShellFault.{ShellFault}
use Rattle.ob_output.specs.declared.fault.ShellFault.TheVariants.{Mismatch, TooLong, Write}
use Rattle.ob_output.specs.declared.reading.TheConstants.{SCRIPT_LIMIT}
use Rattle.ob_output.specs.declared.writing.Unwritten.{Unwritten}
use Rattle.ob_worker_lines.specs.declared.phase.Phase.{Phase}
use Rattle.ob_worker_lines.specs.declared.phase.Phase.TheVariants.{Before}
use Rattle.ob_worker_lines.specs.Cuts.{CanBeCut, Lines}
use Rattle.ob_worker_lines.specs.Phases.{IsRight, IsWrong, expected_there}
use Rattle.ob_check.specs.declared.check.Checked.{Checked}
use Rattle.ob_check.specs.declared.check.Checked.TheVariants.{Clean, Faulty}

-- the line of output on a line of this number in a phase: the column where it stops, and what is expected there
abbrev pub fault_line : ℕ → Phase → Misfit → List ℕ
fault_line number phase misfit =
    codes "line " ++ decimal number ++ codes ", column " ++ decimal misfit.column ++ codes ": expected " ++ expected_there phase misfit.expected ++ codes "\n"

-- Lines, the first of this number and in a phase, are reported so, and the line after them is in the phase `next`. Nothing is said of a line that is
-- right. A line that is wrong leaves the phase as it is.
abbrev pub IsReported : ℕ → Phase → Lines → List ℕ → Phase → Type 0
IsReported number phase [] output next = (output ≡ []) × (next ≡ phase)
IsReported number phase (line ∷ lines) output next =
    ((after : Phase) × IsRight phase line after × IsReported (number + 1) after lines output next)
    ⊎ ((misfit : Misfit) × (rest : List ℕ) × IsWrong phase line misfit × (output ≡ fault_line number phase misfit ++ rest)
    × IsReported (number + 1) phase lines rest next)

-- whether something is reported
abbrev pub IsChecked : Checked → List ℕ → Type 0
IsChecked Clean output = output ≡ []
IsChecked Faulty output = output ≢ []

-- all lines of the script are reported so
abbrev pub ReportsScript : List ℕ → Checked → List ℕ → Type 0
ReportsScript script checked output = (next : Phase) × IsReported 1 Before (lines_of script) output next × IsChecked checked output

-- the report on the script was written
abbrev pub WritesReport : Option (List ℕ) → Option (List ℕ) → List ℕ → Checked → Type 0
WritesReport old new script checked = (output : List ℕ) × ReportsScript script checked output × Appends old new output

-- a beginning of the report on the script's first lines was written, and not all of it
abbrev pub WritesReportPart : Option (List ℕ) → Option (List ℕ) → List ℕ → Type 0
WritesReportPart old new script =
    (first : Lines) × (later : Lines) × (output : List ℕ) × (next : Phase) × (lines_of script ≡ first ++ later) × IsReported 1 Before first output next
    × AppendsFront old new output

-- The check of the script on the input: what was written is the report, or a beginning of it after a fault of writing, or nothing after any
-- other fault; a script that is too long isn't checked, and no other is called so.
pub record Checks (outcome : Result Checked ShellFault) (input written written' : Option (List ℕ)) : Type 0 where
  pub reported : IfOk outcome (λ checked. IfSome input (λ script. WritesReport written written' script checked))
  pub part : (unwritten : Unwritten) → IsErrOf outcome (Write unwritten) → IfSome input (λ script. WritesReportPart written written' script)
  pub unwritten : IfErr outcome (λ fault. is_unwritten fault ≡ false → written' ≡ written)
  pub too_long : IsErrOf outcome TooLong → IfSome input (λ script. SCRIPT_LIMIT < length script)
  pub faults : IfErr outcome (λ fault. fault ≢ Mismatch)
  pub refused : IfSome input (λ script. SCRIPT_LIMIT < length script → IsErr outcome)
  pub long : IfSome input (λ script. SCRIPT_LIMIT < length script → IfErr outcome StopsLong × (written' ≡ written))

-- nothing is reported of a script exactly where it can be cut
abbrev pub CleanScriptsAreCut : Type 0
CleanScriptsAreCut =
    (script : List ℕ) (checked : Checked) (output : List ℕ) → ReportsScript script checked output → (checked ≡ Clean) ↔ CanBeCut (lines_of script)
