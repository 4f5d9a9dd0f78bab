-- The task that the program does for its arguments, or their fault, and how the program ends.
-- Source: this profile. The parser, the crate clap, defines what arguments are.
use Rattle.std.specs.Prelude.{◌≡◌, ◌≢◌, ◌⊎◌, ℕ, List, [], Option, Result, None, Some, true}
use Rattle.std.specs.Borrow.{Bor}
use Rattle.std.specs.Fn.{FnOnceReturnsAt, Once}
use Rattle.std.specs.declared.io.Error.{Error}
use Rattle.clap.specs.Words.{IsAmong, Text, fault_of, subcommand_of, takes}
use Rattle.clap.specs.declared.error.kind.ErrorKind.{ErrorKind}
use Rattle.clap.specs.declared.error.kind.ErrorKind.TheVariants.{OutOfMemory}
use Rattle.ob_output.specs.declared.fault.ShellFault.{ShellFault}
use Rattle.ob_shell.specs.declared.end.ProgramOutcome.{ProgramOutcome}
use Rattle.ob_shell.specs.declared.end.ProgramOutcome.TheVariants as ends
use Rattle.ob_shell.specs.declared.end.TaskOutcome.{TaskOutcome}
use Rattle.ob_shell.specs.Opening.{Follows, Opened, opened_as}
use Rattle.ob_shell.specs.Perform.{Performs, Told}
use Rattle.ob_script_tree.specs.declared.picture.Picture.{Picture}
use Rattle.ob_shell.specs.Plan.{Named, check, named, ntns, replay, script, session, run, task_of, threads, tree}
use Rattle.ob_shell.specs.Refuse.{Blames, Fails, Helps, IsRequest, Starves}
use Rattle.ob_shell.specs.declared.planning.Task.{Task}

-- the arguments have no fault and name the file of this path
abbrev pub AsksFor : List Text → Text → Type 0
AsksFor arguments path = (task_of (subcommand_of ntns arguments) ≡ Some (run path))
    ⊎ ((task_of (subcommand_of ntns arguments) ≡ Some (threads path)) ⊎ ((task_of (subcommand_of ntns arguments) ≡ Some (replay path))
    ⊎ ((task_of (subcommand_of ntns arguments) ≡ Some (check path)) ⊎ ((picture : Picture) × (task_of (subcommand_of ntns arguments) ≡ Some (tree picture (Some path)))))))

-- what opening the file of a path may give, by a function that opens it
abbrev pub Gives : {F I : Type 0} → Once F (Bor Text × Unit {0}) (Result I Error) → F → (I → Option (List ℕ)) → Text → Opened → Type 0
Gives {F} {I} calls opener remaining path gave = (opened : Result I Error) × FnOnceReturnsAt calls opener path opened × (gave ≡ opened_as remaining opened)

-- the task is done over the file of this path, or the fault of opening it is reported
pub record ServesFile (gives : Text → Opened → Type 0) (path : Text) (task : Task) (outcome : Result TaskOutcome ShellFault) (line : Told) (written written' told told' : Option (List ℕ)) : Type 0 where
  pub opened : Opened
  pub given : gives path opened
  pub done : Follows opened task outcome line written written' told told'

-- the task is done over the input, or over the file that it names
abbrev pub ServesNamed : (Text → Opened → Type 0) → Named → Task → Result TaskOutcome ShellFault → Told → Option (List ℕ) → Option (List ℕ) → Option (List ℕ) → Option (List ℕ) → Option (List ℕ) → Type 0
ServesNamed gives script task outcome line input written written' told told' = Performs task outcome line input written written' told told'
ServesNamed gives session task outcome line input written written' told told' = Performs task outcome line input written written' told told'
ServesNamed gives (run path) task outcome line input written written' told told' = ServesFile gives path task outcome line written written' told told'
ServesNamed gives (threads path) task outcome line input written written' told told' = ServesFile gives path task outcome line written written' told told'
ServesNamed gives (replay path) task outcome line input written written' told told' = ServesFile gives path task outcome line written written' told told'
ServesNamed gives (check path) task outcome line input written written' told told' = ServesFile gives path task outcome line written written' told told'
ServesNamed gives (tree picture None) task outcome line input written written' told told' = Performs task outcome line input written written' told told'
ServesNamed gives (tree picture (Some path)) task outcome line input written written' told told' = ServesFile gives path task outcome line written written' told told'

-- the arguments have no fault, and name the task that is done
pub record ServesTask (gives : Text → Opened → Type 0) (arguments : List Text) (end : ProgramOutcome) (line : Told) (input written written' told told' : Option (List ℕ)) : Type 0 where
  pub task : Task
  pub outcome : Result TaskOutcome ShellFault
  pub asked : task_of (subcommand_of ntns arguments) ≡ Some (named task)
  pub faultless : fault_of ntns arguments ≡ []
  pub ended : end ≡ ends.Task outcome
  pub done : ServesNamed gives (named task) task outcome line input written written' told told'

-- how a fault of this kind is reported
pub record Refuses (kind : ErrorKind) (end : ProgramOutcome) (line : Told) (written written' told told' : Option (List ℕ)) : Type 0 where
  pub want : kind ≡ OutOfMemory → Starves end line written written' told told'
  pub help : IsRequest kind → Helps end line written written' told told'
      ⊎ (Fails end line written written' told told' ⊎ Starves end line written written' told told')
  pub mistake : kind ≢ OutOfMemory → (IsRequest kind → ⊥)
      → Blames end line written written' told told' ⊎ Starves end line written written' told told'

-- the arguments have a fault, which is reported; arguments that the parser takes have no fault except out of memory
pub record ServesFault (arguments : List Text) (end : ProgramOutcome) (line : Told) (written written' told told' : Option (List ℕ)) : Type 0 where
  pub kind : ErrorKind
  pub stated : IsAmong kind (fault_of ntns arguments)
  pub taken : takes ntns arguments ≡ true → kind ≡ OutOfMemory
  pub refused : Refuses kind end line written written' told told'

-- a task is done, or a fault of the arguments is reported, or memory ran out before
abbrev pub Serves : (Text → Opened → Type 0) → List Text → ProgramOutcome → Told → Option (List ℕ) → Option (List ℕ) → Option (List ℕ) → Option (List ℕ) → Option (List ℕ) → Type 0
Serves gives arguments end line input written written' told told' = ServesTask gives arguments end line input written written' told told'
    ⊎ (ServesFault arguments end line written written' told told' ⊎ Starves end line written written' told told')
