-- How the program ends where its arguments name no task.
-- Source: this profile.
use Rattle.std.specs.Prelude.{◌≡◌, ◌⊎◌, ℕ, List, Option, Ok, Err, OnOk, OnErr}
use Rattle.std.specs.Io.KnownBytes.{Appends, Keeps}
use Rattle.clap.specs.declared.error.kind.ErrorKind.{ErrorKind}
use Rattle.clap.specs.declared.error.kind.ErrorKind.TheVariants as kind
use Rattle.ob_output.specs.Writing.{AppendsFront}
use Rattle.ob_output.specs.declared.fault.ShellFault.TheVariants.{Memory, Write}
use Rattle.ob_output.specs.declared.writing.Unwritten.{Unwritten}
use Rattle.ob_shell.specs.declared.end.ProgramOutcome.{ProgramOutcome}
use Rattle.ob_shell.specs.declared.end.ProgramOutcome.TheVariants.{Task, Mistake, Help}
use Rattle.ob_shell.specs.Perform.{Complains, Told}

-- memory ran out, and standard error says so
pub record Starves (end : ProgramOutcome) (line : Told) (written written' told told' : Option (List ℕ)) : Type 0 where
  pub ended : end ≡ Task (Err Memory)
  pub silent : Keeps written written'
  pub complained : Complains Memory line told told'

-- some text was written
abbrev pub Writes : Option (List ℕ) → Option (List ℕ) → Type 0
Writes old new = (text : List ℕ) × Appends old new text

-- a beginning of some text was, and not all of it
abbrev pub WritesFront : Option (List ℕ) → Option (List ℕ) → Type 0
WritesFront old new = (text : List ℕ) × AppendsFront old new text

-- a mistake in the arguments, with text on standard error alone, whole or, where a write failed, in part
pub record Blames (end : ProgramOutcome) (line : Told) (written written' told told' : Option (List ℕ)) : Type 0 where
  pub ended : end ≡ Mistake
  pub silent : Keeps written written'
  pub told_mistake : OnOk line (Writes told told')
  pub told_part : OnErr line (WritesFront told told')

-- help or the version that was asked for, with text on standard output alone
pub record Helps (end : ProgramOutcome) (line : Told) (written written' told told' : Option (List ℕ)) : Type 0 where
  pub ended : end ≡ Help
  pub nothing_owed : line ≡ Ok tt
  pub told_help : Writes written written'
  pub silent : Keeps told told'

-- help or the version that could not be written, as a write reported, and standard error says so
pub record Fails (end : ProgramOutcome) (line : Told) (written written' told told' : Option (List ℕ)) : Type 0 where
  pub unwritten : Unwritten
  pub ended : end ≡ Task (Err (Write unwritten))
  pub told_part : WritesFront written written'
  pub complained : Complains (Write unwritten) line told told'

-- what the arguments asked for: help or the version
abbrev pub IsRequest : ErrorKind → Type 0
IsRequest k = (k ≡ kind.DisplayHelp) ⊎ (k ≡ kind.DisplayVersion)
