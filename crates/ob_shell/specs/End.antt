-- How the program ends, and its status.
-- Source: this profile.
use Rattle.std.specs.Prelude.{ℕ, Ok, Err}
use Rattle.ob_check.specs.declared.check.Checked.TheVariants as checked
use Rattle.ob_scripts.specs.declared.run.Ending.TheVariants as ending
use Rattle.ob_shell.specs.declared.end.ProgramOutcome.{ProgramOutcome}
use Rattle.ob_shell.specs.declared.end.ProgramOutcome.TheVariants.{Task, Mistake, Help}
use Rattle.ob_shell.specs.declared.end.TaskOutcome.TheVariants.{Script, Threads, Replay, Check, Session}
use Rattle.ob_threads.specs.declared.ends.ThreadsEnding.TheVariants as threads
use Rattle.ob_journal.specs.declared.verdict.Verdict.TheVariants as verdict

-- 0 where the whole script was run, each line of a script that is checked is right, a session came to its end, a journal is accepted, or help or the
-- version was written; 2 for a mistake in the arguments; 3 where a journal is refused; else 1
abbrev pub status_of : ProgramOutcome → ℕ
status_of (Task (Ok (Script ending.Done))) = 0
status_of (Task (Ok (Script (ending.BadLine line)))) = 1
status_of (Task (Ok (Script (ending.NoMemoryAt line)))) = 1
status_of (Task (Ok (Threads threads.Done))) = 0
status_of (Task (Ok (Threads (threads.BadLine line)))) = 1
status_of (Task (Ok (Threads (threads.NoMemoryAt line)))) = 1
status_of (Task (Ok (Threads (threads.RefusedAt line)))) = 1
status_of (Task (Ok (Replay verdict.Accepted))) = 0
status_of (Task (Ok (Replay verdict.Refused))) = 3
status_of (Task (Ok (Check checked.Clean))) = 0
status_of (Task (Ok (Check checked.Faulty))) = 1
status_of (Task (Ok Session)) = 0
status_of (Task (Err fault)) = 1
status_of Mistake = 2
status_of Help = 0
