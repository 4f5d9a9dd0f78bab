-- The ledger is the one that is made blank here.
use Rattle.callers.proofs.scenes.see.Given as goal

abbrev pub ghosts-see_in : goal.ghosts-see_in
ghosts-see_in g a = record { name = a.blank.name; parts = a.blank.parts }
