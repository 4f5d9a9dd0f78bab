-- A lemma on what the program does where its arguments name no task.
use Rattle.std.proofs.Common.{◌≡◌, ℕ, List, Option, true, inl, inr}
use Rattle.clap.specs.Words.{HasKind, Text, fault_of, kind_of, takes}
use Rattle.clap.specs.declared.error.Error.{Error}
use Rattle.clap.specs.declared.error.kind.ErrorKind.TheVariants.{OutOfMemory}
use Rattle.ob_shell.specs.Plan.{ntns}
use Rattle.ob_shell.specs.declared.end.ProgramOutcome.{ProgramOutcome}
use Rattle.ob_shell.specs.Opening.{Opened}
use Rattle.ob_shell.specs.Perform.{Told}
use Rattle.ob_shell.specs.Serve.{Refuses, Serves}

-- a fault that the parser states for the arguments, or want of memory, is told as its kind is
pub serves_fault : (gives : Text → Opened → Type 0) (arguments : List Text) (fault : Error) (end : ProgramOutcome) (line : Told) (input written written' told told' : Option (List ℕ))
    → HasKind (fault_of ntns arguments) fault → (takes ntns arguments ≡ true → kind_of fault ≡ OutOfMemory)
    → Refuses (kind_of fault) end line written written' told told' → Serves gives arguments end line input written written' told told'
serves_fault gives arguments fault end line input written written' told told' (inl want) taken refused = inr (inr (refused.want want))
serves_fault gives arguments fault end line input written written' told told' (inr stated) taken refused = inr (inl (record {
  kind = kind_of fault;
  stated = stated;
  taken = taken;
  refused = refused;
}))
