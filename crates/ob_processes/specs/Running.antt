-- The live processes and their handles: what is seen of them, and how it lies in one table for each process.
--
-- Sources: Windows Internals, Object Manager (handles and the process handle table); the orders of opening
-- and the numbers of processes are this profile.
use Rattle.std.specs.Prelude.{◌≡◌, ℕ, ◌==◌, true, if◌then◌else◌, List, [], ◌∷◌, ◌++◌, length, map, All, Option, None}
use Rattle.std.specs.BTreeMap.{is_at}
use Rattle.std.specs.List.Sorted.{IsStrictlySortedBy}
use Rattle.std.specs.Map.{keys_of, lookup}
use Rattle.std.specs.Ordering.{nat_cmp}
use Rattle.ob_model.specs.declared.state.Held.{Held}
use Rattle.ob_model.specs.declared.state.Process.{Process}
use Rattle.ob_devmap.specs.Maps.{Directories, map_in}
use Rattle.ob_processes.specs.ByOrder.{by_order, OrdersRise}

-- The view of the live processes: the two parts of the abstract state that they are.
pub record Running : Type 0 where
  -- the live processes, by rising numbers
  pub processes : List Process
  -- the handles of all of them, in the order in which they were opened
  pub handles : List Held

-- a process with another map, where it is the one of this number
abbrev pub with_map : ℕ → Option ℕ → Process → Process
with_map number m x = if x.number == number then record x { map = m } else x

-- the handles of each process in the order in which they were opened, under its number
abbrev pub Entries : Type 0
Entries = List (ℕ × List Held)

-- the processes of the entries, each with the device map that it has
abbrev pub process_of_entry : Directories → ℕ × List Held → Process
process_of_entry maps e = record { number = e.0; map = map_in maps e.0 }

abbrev pub processes_of : Directories → Entries → List Process
processes_of maps entries = map (process_of_entry maps) entries

-- only a process that is live has a device map
abbrev pub OnlyLiveHaveMaps : Directories → Entries → Type 0
OnlyLiveHaveMaps maps entries = (process : ℕ) → lookup (is_at (nat_cmp process)) entries ≡ None → map_in maps process ≡ None

-- the handles of one process after those of another
abbrev pub in_turn : Entries → List Held
in_turn [] = []
in_turn (e ∷ entries) = e.1 ++ in_turn entries

-- the handles of all processes, in the order in which they were opened
abbrev pub handles_of : Entries → List Held
handles_of entries = by_order (in_turn entries)

-- what is seen of the entries, with the device maps
abbrev pub seen : Directories → Entries → Running
seen maps entries = record { processes = processes_of maps entries; handles = handles_of entries }

-- the handles are of the process of this number, in the order in which they were opened
pub record IsTableOf (number : ℕ) (handles : List Held) : Type 0 where
  pub own : All (λ h. (h.process == number) ≡ true) handles
  pub rising : OrdersRise handles

-- The invariant of the entries: their numbers rise, each has the handles of its process, no two handles of all
-- have one order, and there are so many handles.
pub record IsRunning (entries : Entries) (kept : ℕ) : Type 0 where
  pub numbers : IsStrictlySortedBy nat_cmp (keys_of entries)
  pub tables : All (λ e. IsTableOf e.0 e.1) entries
  pub rising : OrdersRise (handles_of entries)
  pub total : kept ≡ length (handles_of entries)
