-- The ledger is the one that is made blank here.
use Rattle.ob_shell.proofs.performing.run_workers.Given as goal

abbrev pub ghosts-run_threads : goal.ghosts-run_threads
ghosts-run_threads g a = record { name = a.blank.name; parts = a.blank.parts }
