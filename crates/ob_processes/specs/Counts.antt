-- Counts that are kept: how many handles lead to each object.
--
-- Source: this profile.
use Rattle.std.specs.Prelude.{◌≡◌, ℕ, ◌==◌, List, count_by}
use Rattle.ob_handles.specs.Counts.{Numbers, count_of}
use Rattle.ob_devmap.specs.Maps.{Directories}
use Rattle.ob_handles.specs.Table.{IsTable}
use Rattle.ob_model.specs.declared.state.Held.{Held}
use Rattle.ob_processes.specs.Running.{Entries, handles_of, IsRunning, OnlyLiveHaveMaps}

-- so many of these handles lead to each object
abbrev pub Counts : Numbers → List Held → Type 0
Counts numbers handles = (object : ℕ) → count_of numbers object ≡ count_by (λ h. h.object == object) handles

-- The invariant of the handles of one process, and of their counts.
pub record IsCounted (handles : List Held) (numbers : Numbers) : Type 0 where
  pub table : IsTable handles
  pub counts : Counts numbers handles

-- The invariant of the entries, of the device maps beside them, of how many handles there are, and of the
-- counts of all.
pub record AreKept (maps : Directories) (entries : Entries) (kept : ℕ) (numbers : Numbers) : Type 0 where
  pub running : IsRunning entries kept
  pub mapped : OnlyLiveHaveMaps maps entries
  pub counts : Counts numbers (handles_of entries)
