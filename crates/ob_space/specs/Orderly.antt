-- The invariant that every change of a namespace keeps of its state.
use Rattle.std.specs.Prelude.{◌≡◌, ℕ, ◌<◌, ◌≤◌, ◌==◌, Bool, true, false, List, All, length}
use Rattle.std.specs.List.{AllPairs, list_any}
use Rattle.ob_model.specs.declared.state.Body.{Body}
use Rattle.ob_model.specs.declared.state.Body.TheVariants.{Directory, Link, Other}
use Rattle.ob_model.specs.declared.state.Object.{Object}
use Rattle.ob_model.specs.declared.state.Held.{Held}
use Rattle.ob_model.specs.State.{State, root_id, is_directory, table_size, most_handles}
use Rattle.ob_model.specs.Processes.{most_processes}
use Rattle.ob_model.specs.Settle.{IsSettled}
use Rattle.ob_model.specs.Sound.{Stands, IsSound}

-- a body has no inner value, or one that counts no open handle
abbrev pub IsIdleBody : {F I : Type 0} → (I → Type 0) → Body F I → Type 0
IsIdleBody idle (Directory shadow) = Unit {0}
IsIdleBody idle (Link target) = Unit {0}
IsIdleBody idle (Other face inner) = idle inner

-- one of these handles leads to the object
abbrev pub is_held : List Held → ℕ → Bool
is_held handles o = list_any (λ h. h.object == o) handles

-- an object to which no handle leads is idle
abbrev pub IsIdleUnheld : {F I : Type 0} → (I → Type 0) → List Held → Object F I → Type 0
IsIdleUnheld idle handles x = is_held handles x.id ≡ false → IsIdleBody idle x.body

-- The root is a directory. The numbers of objects rise, and are all less than the next one, and so do
-- the stamps of rows; a row's object is there, and its directory was made before it. An object without
-- handles is idle. The order of each handle, and the number of each process, are less
-- than the next one. No more processes live, and no process has more handles, than may be.
pub record IsOrderly {K T F I : Type 0} (idle : I → Type 0) (s : State K T F I) : Type 0 where
  pub root : is_directory s root_id ≡ true
  pub rising : AllPairs (λ a b. a.id < b.id) s.objects
  pub drawn : All (λ x. x.id < s.next_id) s.objects
  pub standing : All (λ r. Stands s r.object) s.rows
  pub descending : All (λ r. r.directory < r.object) s.rows
  pub stamped : All (λ r. r.stamp < s.next_stamp) s.rows
  pub unheld : All (IsIdleUnheld idle s.handles) s.objects
  pub opened : All (λ h. h.order < s.next_order) s.handles
  pub numbered : All (λ x. x.number < s.next_process) s.processes
  pub few_handles : (p : ℕ) → table_size s p ≤ most_handles
  pub few_processes : length s.processes ≤ most_processes

-- The invariant of a namespace between two steps: its state is orderly, sound and settled.
pub record IsBetweenSteps {K T F I : Type 0} (idle : I → Type 0) (s : State K T F I) : Type 0 where
  pub orderly : IsOrderly idle s
  pub sound : IsSound s
  pub settled : IsSettled s
