-- The outcome of a task whose file was opened, or couldn't be.
-- Source: this profile.
use Rattle.std.specs.Prelude.{◌≡◌, ℕ, List, Option, Result, Ok, Err}
use Rattle.std.specs.IoError.{error_kind}
use Rattle.std.specs.Io.KnownBytes.{Keeps}
use Rattle.std.specs.declared.io.Error.{Error}
use Rattle.std.specs.declared.io.ErrorKind.{ErrorKind}
use Rattle.std.specs.declared.io.ErrorKind.TheVariants.{OutOfMemory}
use Rattle.ob_output.specs.Fault.{unread_of}
use Rattle.ob_output.specs.declared.fault.ShellFault.{ShellFault}
use Rattle.ob_output.specs.declared.fault.ShellFault.TheVariants.{Memory, Read}
use Rattle.ob_shell.specs.declared.end.TaskOutcome.{TaskOutcome}
use Rattle.ob_shell.specs.Perform.{Complains, Performs, Told}
use Rattle.ob_shell.specs.declared.planning.Task.{Task}

-- the result of opening a file: the bytes that the file has left, where they are known, or the kind of a fault
abbrev pub Opened : Type 0
Opened = Result (Option (List ℕ)) ErrorKind

abbrev pub opened_as : {I : Type 0} → (I → Option (List ℕ)) → Result I Error → Opened
opened_as remaining (Ok file) = Ok (remaining file)
opened_as remaining (Err fault) = Err (error_kind fault)

-- the program's fault for a fault of opening
abbrev pub fault_of_opening : ErrorKind → ShellFault
fault_of_opening OutOfMemory = Memory
fault_of_opening kind = Read (unread_of kind)

-- the file couldn't be opened: that is the outcome, nothing is written, and standard error says why
pub record Unopened (kind : ErrorKind) (outcome : Result TaskOutcome ShellFault) (line : Told) (written written' told told' : Option (List ℕ)) : Type 0 where
  pub ended : outcome ≡ Err (fault_of_opening kind)
  pub silent : Keeps written written'
  pub complained : Complains (fault_of_opening kind) line told told'

-- the task is done over the file, or the fault of opening is reported
abbrev pub Follows : Opened → Task → Result TaskOutcome ShellFault → Told → Option (List ℕ) → Option (List ℕ) → Option (List ℕ) → Option (List ℕ) → Type 0
Follows (Ok input) task outcome line written written' told told' = Performs task outcome line input written written' told told'
Follows (Err kind) task outcome line written written' told told' = Unopened kind outcome line written written' told told'
