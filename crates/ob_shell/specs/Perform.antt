-- How a task is done: how it ends, and what it says on standard error.
-- Source: this profile.
use Rattle.std.specs.Prelude.{◌≡◌, ◌≢◌, ◌<◌, ℕ, false, List, ◌++◌, length, Option, Some, None, Result, Ok, Err, IfOk, IfErr, OnOk, OnErr, IsErr, IsErrOf, IfSome, codes}
use Rattle.std.specs.Io.KnownBytes.{Appends, Keeps}
use Rattle.ob_check.specs.Report.{Checks}
use Rattle.ob_check.specs.declared.check.Checked.{Checked}
use Rattle.ob_scripts.specs.Shown.{PlaysTo, PlaysPartTo}
use Rattle.ob_scripts.specs.declared.run.Ending.{Ending}
use Rattle.ob_output.specs.Fault.{fault_text_of, is_unwritten}
use Rattle.ob_output.specs.Reading.{StopsLong}
use Rattle.ob_output.specs.Writing.{AppendsFront}
use Rattle.ob_output.specs.declared.fault.ShellFault.{ShellFault}
use Rattle.ob_output.specs.declared.fault.ShellFault.TheVariants.{Memory, Write, TooLong, Mismatch}
use Rattle.ob_output.specs.declared.reading.TheConstants.{SCRIPT_LIMIT}
use Rattle.ob_output.specs.declared.writing.Unwritten.{Unwritten}
use Rattle.ob_shell.specs.declared.end.TaskOutcome.{TaskOutcome}
use Rattle.ob_shell.specs.declared.end.TaskOutcome.TheVariants as ended
use Rattle.ob_threads.specs.Written.{IsWritten}
use Rattle.ob_threads.specs.declared.ends.ThreadsEnding.{ThreadsEnding}
use Rattle.ob_threads.specs.declared.ends.ThreadsEnding.TheVariants as threads
use Rattle.ob_journal.specs.Verdict.{Replays}
use Rattle.ob_journal.specs.declared.verdict.Verdict.{Verdict}
use Rattle.ob_shell.specs.declared.planning.Task.{Task}
use Rattle.ob_script_tree.specs.Drawing.{DrawsPartTo, DrawsTo}
use Rattle.ob_script_tree.specs.declared.picture.Picture.{Picture}
use Rattle.ob_session.specs.Session.{IsConversation, IsConversationCut}
use Rattle.ob_shell.specs.declared.planning.Task.TheVariants.{Script, Run, Threads, Replay, Check, Session, Tree}

-- the line that reports a text
abbrev pub line_of : List ℕ → List ℕ
line_of text = codes "ntns: " ++ text ++ codes "\n"

-- The result of a call that writes to standard error: that all of it was written, or the fault of a write that failed,
-- which nothing else makes.
abbrev pub Told : Type 0
Told = Result (Unit {0}) Unwritten

-- a fault's line was written whole; or, where a write failed, a beginning of it, and not all
pub record Complains (fault : ShellFault) (line : Told) (told told' : Option (List ℕ)) : Type 0 where
  pub whole : OnOk line (Appends told told' (line_of (fault_text_of fault)))
  pub part : OnErr line (AppendsFront told told' (line_of (fault_text_of fault)))

-- the text on standard error of how a task ended, where the output doesn't say so: a fault, and of a run with workers, whose output
-- is a journal, that a step found no memory or was refused
abbrev pub text_told : Result TaskOutcome ShellFault → Option (List ℕ)
text_told (Ok (ended.Script ending)) = None
text_told (Ok (ended.Threads threads.Done)) = None
text_told (Ok (ended.Threads (threads.BadLine line))) = None
text_told (Ok (ended.Threads (threads.NoMemoryAt line))) = Some (fault_text_of Memory)
text_told (Ok (ended.Threads (threads.RefusedAt line))) = Some (codes "step refused")
text_told (Ok (ended.Replay verdict)) = None
text_told (Ok (ended.Check checked)) = None
text_told (Ok ended.Session) = None
text_told (Err fault) = Some (fault_text_of fault)

-- it says that whole, or nothing where there is nothing to say
abbrev pub SaysWhole : Option (List ℕ) → Option (List ℕ) → Option (List ℕ) → Type 0
SaysWhole None told told' = Keeps told told'
SaysWhole (Some text) told told' = Appends told told' (line_of text)

-- it says a beginning of it, where a write failed
abbrev pub SaysFront : Option (List ℕ) → Option (List ℕ) → Option (List ℕ) → Type 0
SaysFront None told told' = ⊥
SaysFront (Some text) told told' = AppendsFront told told' (line_of text)

-- so standard error is left by a task
pub record Tells (outcome : Result TaskOutcome ShellFault) (line : Told) (told told' : Option (List ℕ)) : Type 0 where
  pub whole : OnOk line (SaysWhole (text_told outcome) told told')
  pub part : OnErr line (SaysFront (text_told outcome) told told')

-- the run of the script on the input: what was written is what the script plays, or a beginning of it
-- after a fault of writing, or nothing after any other fault; a script that is too long isn't run
pub record RunsScript (outcome : Result Ending ShellFault) (input written written' : Option (List ℕ)) : Type 0 where
  pub played : IfOk outcome (λ ending. IfSome input (λ script. PlaysTo written written' script ending))
  pub part : (unwritten : Unwritten) → IsErrOf outcome (Write unwritten) → IfSome input (λ script. PlaysPartTo written written' script)
  pub unwritten : IfErr outcome (λ fault. is_unwritten fault ≡ false → written' ≡ written)
  pub too_long : IsErrOf outcome TooLong → IfSome input (λ script. SCRIPT_LIMIT < length script)
  pub faults : IfErr outcome (λ fault. fault ≢ Mismatch)
  pub refused : IfSome input (λ script. SCRIPT_LIMIT < length script → IsErr outcome)
  pub long : IfSome input (λ script. SCRIPT_LIMIT < length script → IfErr outcome StopsLong × (written' ≡ written))

-- the same of a script of which the tree is drawn that it leaves
pub record RunsTree (picture : Picture) (outcome : Result Ending ShellFault) (input written written' : Option (List ℕ)) : Type 0 where
  pub drawn : IfOk outcome (λ ending. IfSome input (λ script. DrawsTo picture written written' script ending))
  pub part : (unwritten : Unwritten) → IsErrOf outcome (Write unwritten) → IfSome input (λ script. DrawsPartTo picture written written' script)
  pub unwritten : IfErr outcome (λ fault. is_unwritten fault ≡ false → written' ≡ written)
  pub too_long : IsErrOf outcome TooLong → IfSome input (λ script. SCRIPT_LIMIT < length script)
  pub faults : IfErr outcome (λ fault. fault ≢ Mismatch)
  pub refused : IfSome input (λ script. SCRIPT_LIMIT < length script → IsErr outcome)
  pub long : IfSome input (λ script. SCRIPT_LIMIT < length script → IfErr outcome StopsLong × (written' ≡ written))

-- the outcome is that of a run of a script, of which this holds
abbrev pub OfScript : (Result Ending ShellFault → Type 0) → Result TaskOutcome ShellFault → Type 0
OfScript P (Ok (ended.Script ending)) = P (Ok ending)
OfScript P (Ok (ended.Threads ending)) = ⊥
OfScript P (Ok (ended.Replay verdict)) = ⊥
OfScript P (Ok (ended.Check checked)) = ⊥
OfScript P (Ok ended.Session) = ⊥
OfScript P (Err fault) = P (Err fault)

-- the outcome is that of a run of a script with workers, of which this holds
abbrev pub OfThreads : (Result ThreadsEnding ShellFault → Type 0) → Result TaskOutcome ShellFault → Type 0
OfThreads P (Ok (ended.Script ending)) = ⊥
OfThreads P (Ok (ended.Threads ending)) = P (Ok ending)
OfThreads P (Ok (ended.Replay verdict)) = ⊥
OfThreads P (Ok (ended.Check checked)) = ⊥
OfThreads P (Ok ended.Session) = ⊥
OfThreads P (Err fault) = P (Err fault)

-- the outcome is that of the check of a journal, of which this holds
abbrev pub OfReplay : (Result Verdict ShellFault → Type 0) → Result TaskOutcome ShellFault → Type 0
OfReplay P (Ok (ended.Script ending)) = ⊥
OfReplay P (Ok (ended.Threads ending)) = ⊥
OfReplay P (Ok (ended.Replay verdict)) = P (Ok verdict)
OfReplay P (Ok (ended.Check checked)) = ⊥
OfReplay P (Ok ended.Session) = ⊥
OfReplay P (Err fault) = P (Err fault)

-- the outcome is that of the check of a script, of which this holds
abbrev pub OfCheck : (Result Checked ShellFault → Type 0) → Result TaskOutcome ShellFault → Type 0
OfCheck P (Ok (ended.Script ending)) = ⊥
OfCheck P (Ok (ended.Threads ending)) = ⊥
OfCheck P (Ok (ended.Replay verdict)) = ⊥
OfCheck P (Ok (ended.Check checked)) = P (Ok checked)
OfCheck P (Ok ended.Session) = ⊥
OfCheck P (Err fault) = P (Err fault)

-- the outcome is that of a session over the input: all its lines were answered, or a fault cut it
abbrev pub RunsSession : Result TaskOutcome ShellFault → Option (List ℕ) → Option (List ℕ) → Option (List ℕ) → Type 0
RunsSession (Ok (ended.Script ending)) input written written' = ⊥
RunsSession (Ok (ended.Threads ending)) input written written' = ⊥
RunsSession (Ok (ended.Replay verdict)) input written written' = ⊥
RunsSession (Ok (ended.Check checked)) input written written' = ⊥
RunsSession (Ok ended.Session) input written written' = IsConversation input written written'
RunsSession (Err fault) input written written' = IsConversationCut fault input written written'

-- the run or the check that the task asks for, to this outcome, with its input, and the output before and after
abbrev pub Runs : Task → Result TaskOutcome ShellFault → Option (List ℕ) → Option (List ℕ) → Option (List ℕ) → Type 0
Runs Script outcome input written written' = OfScript (λ ran. RunsScript ran input written written') outcome
Runs (Run file) outcome input written written' = OfScript (λ ran. RunsScript ran input written written') outcome
Runs (Threads file) outcome input written written' = OfThreads (λ ran. IsWritten ran input written written') outcome
Runs (Replay file) outcome input written written' = OfReplay (λ ran. Replays ran input written written') outcome
Runs (Check file) outcome input written written' = OfCheck (λ ran. Checks ran input written written') outcome
Runs Session outcome input written written' = RunsSession outcome input written written'
Runs (Tree file picture) outcome input written written' = OfScript (λ ran. RunsTree picture ran input written written') outcome

-- the task, to this outcome, with its input, and what was written before and after
pub record Performs (task : Task) (outcome : Result TaskOutcome ShellFault) (line : Told) (input written written' told told' : Option (List ℕ)) : Type 0 where
  pub run : Runs task outcome input written written'
  pub told_end : Tells outcome line told told'
