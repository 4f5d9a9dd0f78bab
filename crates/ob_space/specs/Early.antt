-- The commands that are answered without memory: those that take none, and what is refused before its
-- lookup.
use Rattle.std.specs.Prelude.{ℕ, Bool, false, ◌||◌, not, nat_le, nat_lt, List, length, Option, None, is_some}
use Rattle.std.specs.Option.{option_and_then, option_map_or}
use Rattle.ob_base.specs.Handle.{key_of}
use Rattle.ob_model.specs.declared.command.Command.{Command}
use Rattle.ob_model.specs.declared.command.Command.TheVariants.{CreateDirectory, CreateShadowed, CreateLink, CreateObject, OpenDirectory, OpenLink, OpenObject, Close, QueryLink, QueryName, QueryDirectory, Duplicate, MakeTemporary, MakePermanent, SetDeviceMap, NewProcess, ExitProcess}
use Rattle.ob_model.specs.declared.command.Place.{Place}
use Rattle.ob_model.specs.declared.command.Place.TheVariants.{At, Unnamed}
use Rattle.ob_model.specs.Creates.{Making, MakesDirectory, MakesLink, MakesObject, is_fit}
use Rattle.ob_model.specs.Grants.{first_refusal}
use Rattle.ob_model.specs.Refusals.{create_refusals, open_refusals}
use Rattle.ob_model.specs.State.{State, is_live, is_directory, shadow_of, held_of, greatest_process}
use Rattle.ob_model.specs.Enumeration.{largest_room}
use Rattle.ob_model.specs.Processes.{most_processes}
use Rattle.ob_space.specs.Roots.{root_of}

-- a command takes no memory: a close, the end of a process, and making an object permanent or temporary
abbrev pub TakesNoMemory : {K : Type 0} → Command K → Type 0
TakesNoMemory (CreateDirectory where_to attrs) = ⊥
TakesNoMemory (CreateShadowed where_to attrs shadow) = ⊥
TakesNoMemory (CreateLink where_to attrs target) = ⊥
TakesNoMemory (CreateObject where_to attrs kind args) = ⊥
TakesNoMemory (OpenDirectory root name attrs) = ⊥
TakesNoMemory (OpenLink root name attrs) = ⊥
TakesNoMemory (OpenObject root name attrs want) = ⊥
TakesNoMemory (Close handle) = Unit {0}
TakesNoMemory (QueryLink handle) = ⊥
TakesNoMemory (QueryName handle) = ⊥
TakesNoMemory (QueryDirectory handle context room single restart) = ⊥
TakesNoMemory (Duplicate handle to inherit) = ⊥
TakesNoMemory (MakeTemporary handle) = Unit {0}
TakesNoMemory (MakePermanent handle) = Unit {0}
TakesNoMemory (SetDeviceMap handle) = ⊥
TakesNoMemory (NewProcess inherit) = ⊥
TakesNoMemory ExitProcess = Unit {0}

module _ {K T F I : Type 0} where
  -- the process has no handle of this value, whose low two bits are ignored
  abbrev pub lacks_handle : State K T F I → ℕ → ℕ → Bool
  lacks_handle s p handle = not (is_some (option_and_then (held_of s p) (key_of handle)))

  -- nor has it the root handle, where one is given
  abbrev pub lacks_root : State K T F I → ℕ → Option ℕ → Bool
  lacks_root s p root = not (is_some (root_of s p root))

  -- the same of the root handle of a place
  abbrev pub lacks_root_at : State K T F I → ℕ → Place → Bool
  lacks_root_at s p (At root name) = lacks_root s p root
  lacks_root_at s p Unnamed = false

  -- A create is refused before its lookup: its process is gone, its flags, its parameters or its name
  -- are refused, or its root handle is missing.
  abbrev pub is_create_refused : State K T F I → ℕ → Place → ℕ → Making K → Bool
  is_create_refused s p where_to attrs making =
      is_some (first_refusal (create_refusals (is_live s p) (is_fit making) where_to attrs)) || lacks_root_at s p where_to

  -- so is one whose shadow is refused: the process has no such handle, or its object is no directory, or has a shadow itself
  abbrev pub is_shadow_refused : State K T F I → ℕ → ℕ → Bool
  is_shadow_refused s p shadow =
      lacks_handle s p shadow || option_map_or (λ h. not (is_directory s h.object) || is_some (shadow_of s h.object)) (option_and_then (held_of s p) (key_of shadow)) false

  -- so is an open, which has no other parameters
  abbrev pub is_open_refused : State K T F I → ℕ → Option ℕ → List ℕ → ℕ → Bool
  is_open_refused s p root name attrs = is_some (first_refusal (open_refusals (is_live s p) name attrs)) || lacks_root s p root

  -- so is a command that uses a handle of the caller
  abbrev pub is_use_refused : State K T F I → ℕ → ℕ → Bool
  is_use_refused s p handle = not (is_live s p) || lacks_handle s p handle

  -- so is a page of a directory, whose room may be too great, or whose handle lead to no directory
  abbrev pub lacks_directory : State K T F I → ℕ → ℕ → Bool
  lacks_directory s p handle = option_map_or (λ h. not (is_directory s h.object)) (option_and_then (held_of s p) (key_of handle)) false

  abbrev pub is_page_refused : State K T F I → ℕ → ℕ → ℕ → Bool
  is_page_refused s p handle room = not (is_live s p) || nat_lt largest_room room || lacks_handle s p handle || lacks_directory s p handle

  -- so is a duplicate, whose process or the one that is to get the handle may be gone
  abbrev pub is_duplicate_refused : State K T F I → ℕ → ℕ → ℕ → Bool
  is_duplicate_refused s p handle to = not (is_live s p) || not (is_live s to) || lacks_handle s p handle

  -- and a new process, where no process more may live, or no number is left for one
  abbrev pub is_child_refused : State K T F I → ℕ → Bool
  is_child_refused s p = not (is_live s p) || (nat_le most_processes (length s.processes) || nat_lt greatest_process s.next_process)

  -- a command is refused before anything is looked up, made or reported
  abbrev pub is_refused_early : State K T F I → ℕ → Command K → Bool
  is_refused_early s p (CreateDirectory where_to attrs) = is_create_refused s p where_to attrs (MakesDirectory None)
  is_refused_early s p (CreateShadowed where_to attrs shadow) = is_create_refused s p where_to attrs (MakesDirectory None) || is_shadow_refused s p shadow
  is_refused_early s p (CreateLink where_to attrs target) = is_create_refused s p where_to attrs (MakesLink target)
  is_refused_early s p (CreateObject where_to attrs kind args) = is_create_refused s p where_to attrs (MakesObject kind args)
  is_refused_early s p (OpenDirectory root name attrs) = is_open_refused s p root name attrs
  is_refused_early s p (OpenLink root name attrs) = is_open_refused s p root name attrs
  is_refused_early s p (OpenObject root name attrs want) = is_open_refused s p root name attrs
  is_refused_early s p (Close handle) = is_use_refused s p handle
  is_refused_early s p (QueryLink handle) = is_use_refused s p handle
  is_refused_early s p (QueryName handle) = is_use_refused s p handle
  is_refused_early s p (QueryDirectory handle context room single restart) = is_page_refused s p handle room
  is_refused_early s p (Duplicate handle to inherit) = is_duplicate_refused s p handle to
  is_refused_early s p (MakeTemporary handle) = is_use_refused s p handle
  is_refused_early s p (MakePermanent handle) = is_use_refused s p handle
  is_refused_early s p (SetDeviceMap handle) = is_use_refused s p handle
  is_refused_early s p (NewProcess inherit) = is_child_refused s p
  is_refused_early s p ExitProcess = not (is_live s p)
