-- Device maps: which processes have one, and of which directory.
--
-- Source: Windows Internals, Object Manager (session namespace: DOS device names, device maps); that the
-- maps of a directory are counted is this profile.
use Rattle.std.specs.Prelude.{◌≡◌, ℕ, ◌<◌, ◌==◌, ◌^◌, if◌then◌else◌, List, count_by, All, Option, Some}
use Rattle.std.specs.BTreeMap.{is_at}
use Rattle.std.specs.List.Sorted.{IsStrictlySortedBy}
use Rattle.std.specs.Map.{keys_of, values_of, lookup}
use Rattle.std.specs.Ordering.{nat_cmp}
use Rattle.ob_handles.specs.Counts.{Numbers, count_of}

-- the directories of maps, under the numbers of the processes that have them
abbrev pub Directories : Type 0
Directories = List (ℕ × ℕ)

-- the directory of a process's map, where it has one
abbrev pub map_in : Directories → ℕ → Option ℕ
map_in directories process = lookup (is_at (nat_cmp process)) directories

-- one process has this map, or none, and every other the one of before
abbrev pub MapChanges : ℕ → Option ℕ → Directories → Directories → Type 0
MapChanges process map old new = (other : ℕ) → map_in new other ≡ (if other == process then map else map_in old other)

-- a process has this directory as its map
abbrev pub IsMapped : Directories → ℕ → Type 0
IsMapped directories directory = (process : ℕ) × (map_in directories process ≡ Some directory)

-- The invariant of the directories, and of how many maps each is the one of: the numbers of processes rise
-- within 32 bits, and the counts are right.
pub record AreMaps (directories : Directories) (numbers : Numbers) : Type 0 where
  pub rising : IsStrictlySortedBy nat_cmp (keys_of directories)
  pub processes : All (λ process. process < 2 ^ 32) (keys_of directories)
  pub counts : (directory : ℕ) → count_of numbers directory ≡ count_by (λ other. other == directory) (values_of directories)
