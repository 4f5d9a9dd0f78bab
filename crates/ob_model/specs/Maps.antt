-- The device map of a process: the directory in which the process's names of devices are looked up first.
--
-- Sources: Windows Internals, Object Manager (session namespace: device maps); NtSetInformationProcess with
-- ProcessDeviceMap, which is given the handle of a directory. That what isn't a directory is refused, and that
-- a process sets its own map alone, are this profile.
use Rattle.std.specs.Prelude.{ℕ, ◌==◌, if◌then◌else◌, Option, Some, map}
use Rattle.std.specs.Option.{option_and_then}
use Rattle.ob_model.specs.declared.state.Process.{Process}
use Rattle.ob_model.specs.State.{State, process_of}

-- a process with another map, where it is the one of this number
abbrev pub with_own_map : ℕ → Option ℕ → Process → Process
with_own_map p m x = if x.number == p then record x { map = m } else x

module _ {K T F I : Type 0} where
  -- the map of a process, where it is live and has one
  abbrev pub map_of : State K T F I → ℕ → Option ℕ
  map_of s p = option_and_then (λ x. x.map) (process_of s p)

  -- the state in which a process has the map of this directory, before it settles
  abbrev pub with_map : State K T F I → ℕ → ℕ → State K T F I
  with_map s p d = record s { processes = map (with_own_map p (Some d)) s.processes }
