-- The value of the set of a caller's own objects: the deletions, how their list grows, and how they are taken from it, one after
-- another; and the last serial that a first open drew.
--
-- Source: this profile.
use Rattle.std.specs.Prelude.{ℕ, zero, suc, List, [], ◌∷◌, ◌++◌, Option, None, Some}
use Rattle.ob_host.specs.declared.deletion.HostDeletion.{HostDeletion}

-- The list of the deletions that were not taken, the first one first; or the next deletes are passed over, one
-- more than this number, before a list is kept. The set itself always keeps a list: one that passes deletes over is the first
-- value of the run in which what was taken had never been listed.
pub data Deletions : Type 0 where
  Keeps : List HostDeletion → Deletions
  Passes : ℕ → Deletions

-- after a deletion
abbrev pub with_delete : Deletions → HostDeletion → Deletions
with_delete (Keeps deletions) deletion = Keeps (deletions ++ deletion ∷ [])
with_delete (Passes zero) deletion = Keeps []
with_delete (Passes (suc more)) deletion = Passes more

-- the deletion that is taken next
abbrev pub next_of : Deletions → Option HostDeletion
next_of (Keeps []) = None
next_of (Keeps (deletion ∷ left)) = Some deletion
next_of (Passes more) = None

-- the deletions after it; if there is none, one more delete is passed over
abbrev pub after_next : Deletions → Deletions
after_next (Keeps []) = Passes zero
after_next (Keeps (deletion ∷ left)) = Keeps left
after_next (Passes more) = Passes (suc more)

-- the set's value: the deletions, and the last serial that was drawn, 0 where none was
pub record Hosted : Type 0 where
  pub deletions : Deletions
  pub last : ℕ

-- the value of a new set
abbrev pub unused : Hosted
unused = record { deletions = Keeps []; last = 0 }

-- the deletion that is taken next
abbrev pub next_deletion : Hosted → Option HostDeletion
next_deletion set = next_of set.deletions

-- the value after it
abbrev pub behind_next : Hosted → Hosted
behind_next set = record set { deletions = after_next set.deletions }
