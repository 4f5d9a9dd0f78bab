-- The ledger is the one that is made blank here.
use Rattle.callers.proofs.under.look_at.Given as goal

abbrev pub ghosts-look : goal.ghosts-look
ghosts-look g a = record { name = a.blank.name; parts = a.blank.parts }
