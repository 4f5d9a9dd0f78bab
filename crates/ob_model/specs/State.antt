-- The abstract state: the objects, the rows that name them, the handles, the live processes, the
-- pending opens, the value of the set of types, and the counters. Nothing else is visible.
--
-- Sources: Windows Internals, Object Manager (object directories and their shadow directories, handles
-- and the process handle table, session namespace); the opening state, the counters and the limits are this profile.
use Rattle.std.specs.Prelude.{ℕ, ◌+◌, ◌-◌, ◌^◌, Bool, true, false, ◌&&◌, ◌||◌, ◌==◌, nat_lt, nat_le, if◌then◌else◌, List, [], ◌∷◌, length, Option, None, count_by}
use Rattle.std.specs.List.{find}
use Rattle.std.specs.Option.{option_map, option_and_then, is_some, option_map_or}
use Rattle.ob_model.specs.declared.state.Body.{Body}
use Rattle.ob_model.specs.declared.state.Body.TheVariants.{Directory, Link, Other}
use Rattle.ob_model.specs.declared.state.Object.{Object}
use Rattle.ob_model.specs.declared.state.Row.{Row}
use Rattle.ob_model.specs.declared.state.Held.{Held}
use Rattle.ob_model.specs.declared.state.Process.{Process}
use Rattle.ob_model.specs.declared.state.PendingOpen.{PendingOpen}

-- The state of a namespace whose set of types has kinds K, a value T of its own, faces F and
-- inner values I.
pub record State (K T F I : Type 0) : Type 0 where
  -- the objects, by rising numbers
  pub objects : List (Object F I)
  -- the rows of all directories, by rising stamps
  pub rows : List Row
  -- the handles of all processes, in the order in which they were opened
  pub handles : List Held
  -- the live processes, by rising numbers
  pub processes : List Process
  -- the pending opens, by rising tickets
  pub pending : List (PendingOpen K)
  -- the value of the set of types
  pub set : T
  -- the number that the next object gets, or the next ticket
  pub next_id : ℕ
  -- the stamp of the next row
  pub next_stamp : ℕ
  -- the number of the next process
  pub next_process : ℕ
  -- the order of the next handle
  pub next_order : ℕ

-- the root directory, which `\` names, and the directory `\GLOBAL??`
abbrev pub root_id : ℕ
root_id = 1

abbrev pub global_id : ℕ
global_id = 2

-- the greatest number that an id, a stamp or an order may have, and the greatest of a process
abbrev pub greatest_number : ℕ
greatest_number = 2 ^ 64 - 2

abbrev pub greatest_process : ℕ
greatest_process = 2 ^ 32 - 2

-- the most handles of a process, and the most objects and pending opens together
abbrev pub most_handles : ℕ
most_handles = 65535

abbrev pub most_objects : ℕ
most_objects = 1048576

-- a list by rising numbers with one element more, in its order: before the first of a greater number
abbrev pub in_order : {X : Type 0} → (X → ℕ) → X → List X → List X
in_order number x [] = x ∷ []
in_order number x (y ∷ ys) = if nat_lt (number x) (number y) then x ∷ y ∷ ys else y ∷ in_order number x ys

-- The objects with one more, of a number that none of them has, by rising numbers. A new number is mostly
-- the greatest, and its object the last; but what a parse makes has the number of the parse's ticket, and
-- objects that were made while the parse was pending have greater ones.
abbrev pub insert_object : {F I : Type 0} → Object F I → List (Object F I) → List (Object F I)
insert_object x objects = in_order (λ o. o.id) x objects

-- whether a body is that of a directory, and the shadow of a directory, where it has one
abbrev pub is_directory_body : {F I : Type 0} → Body F I → Bool
is_directory_body (Directory shadow) = true
is_directory_body (Link target) = false
is_directory_body (Other face inner) = false

abbrev pub shadow_in : {F I : Type 0} → Body F I → Option ℕ
shadow_in (Directory shadow) = shadow
shadow_in (Link target) = None
shadow_in (Other face inner) = None

-- among these objects the one of a number, where there is one, whether it is there and is a directory, and
-- the shadow that it has
abbrev pub object_among : {F I : Type 0} → List (Object F I) → ℕ → Option (Object F I)
object_among objects o = find (λ x. x.id == o) objects

abbrev pub is_directory_among : {F I : Type 0} → List (Object F I) → ℕ → Bool
is_directory_among objects o = option_map_or is_directory_body (option_map (λ x. x.body) (object_among objects o)) false

abbrev pub shadow_among : {F I : Type 0} → List (Object F I) → ℕ → Option ℕ
shadow_among objects o = option_and_then shadow_in (option_map (λ x. x.body) (object_among objects o))

-- among these processes the one of a number, where there is one, and whether it is there
abbrev pub process_among : List Process → ℕ → Option Process
process_among processes p = find (λ x. x.number == p) processes

abbrev pub is_live_among : List Process → ℕ → Bool
is_live_among processes p = is_some (process_among processes p)

module _ {K T F I : Type 0} where
  -- the object of a number, where there is one
  abbrev pub object_of : State K T F I → ℕ → Option (Object F I)
  object_of s o = object_among s.objects o

  -- its body
  abbrev pub body_of : State K T F I → ℕ → Option (Body F I)
  body_of s o = option_map (λ x. x.body) (object_of s o)

  -- the object is there, and is a directory
  abbrev pub is_directory : State K T F I → ℕ → Bool
  is_directory s o = is_directory_among s.objects o

  -- the shadow of a directory, where it is there and has one
  abbrev pub shadow_of : State K T F I → ℕ → Option ℕ
  shadow_of s o = shadow_among s.objects o

  -- the process, where it is live
  abbrev pub process_of : State K T F I → ℕ → Option Process
  process_of s p = process_among s.processes p

  -- the process is live
  abbrev pub is_live : State K T F I → ℕ → Bool
  is_live s p = is_live_among s.processes p

  -- the handle of this value that a process holds
  abbrev pub held_of : State K T F I → ℕ → ℕ → Option Held
  held_of s p value = find (λ h. h.process == p && h.value == value) s.handles

  -- how many handles lead to an object: in all, and in one process
  abbrev pub handle_count : State K T F I → ℕ → ℕ
  handle_count s o = count_by (λ h. h.object == o) s.handles

  abbrev pub handle_count_in : State K T F I → ℕ → ℕ → ℕ
  handle_count_in s p o = count_by (λ h. h.process == p && h.object == o) s.handles

  -- how many handles a process has
  abbrev pub table_size : State K T F I → ℕ → ℕ
  table_size s p = count_by (λ h. h.process == p) s.handles

  -- no more objects and pending opens fit, or no number is left for one
  abbrev pub is_store_full : State K T F I → Bool
  is_store_full s = nat_le most_objects (length s.objects + length s.pending) || nat_lt greatest_number s.next_id
