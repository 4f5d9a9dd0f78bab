-- A process's view of the DOS device names, as the state has it.
--
-- Source: Windows Internals, Object Manager (session namespace: DOS device names, device maps).
use Rattle.std.specs.Prelude.{◌≡◌, ℕ}
use Rattle.std.specs.Option.{option_and_then}
use Rattle.ob_model.specs.State.{State, process_of, global_id}
use Rattle.ob_devmap.specs.declared.view.View.{View}

-- the view of a process: the directory of its map, where it has one, and `\GLOBAL??`
abbrev pub IsViewOf : {K T F I : Type 0} → State K T F I → ℕ → View → Type 0
IsViewOf s p view = (view.local ≡ option_and_then (λ x. x.map) (process_of s p)) × (view.global ≡ global_id)
