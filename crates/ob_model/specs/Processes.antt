-- How a handle goes from one process to another, how a process begins, and how it ends.
--
-- Sources: ZwDuplicateObject and ZwClose (Windows Driver Kit); Windows Internals, Object Manager (handles
-- and the process handle table) and Processes (inheritance of handles and of the device map; what the end
-- of a process closes). The limit of live processes and the order of refusals and of closes are this
-- profile.
use Rattle.std.specs.Prelude.{◌≡◌, ℕ, ◌+◌, Bool, true, false, ◌&&◌, ◌||◌, not, ◌==◌, nat_le, nat_lt, List, [], ◌∷◌, ◌++◌, length, filter, map, MatchOption}
use Rattle.std.specs.Option.{option_and_then, option_map_or}
use Rattle.ob_base.specs.declared.status.Status.TheVariants.{Success, InvalidHandle, InsufficientResources, ProcessGone}
use Rattle.ob_base.specs.Handle.{key_of}
use Rattle.ob_model.specs.declared.reply.Answer.{Answer}
use Rattle.ob_model.specs.declared.reply.Given.TheVariants.{Process}
use Rattle.ob_model.specs.declared.state.Held.{Held}
use Rattle.ob_model.specs.State.{State, is_live, process_of, held_of, greatest_number, greatest_process}
use Rattle.ob_model.specs.declared.terms.Reason.TheVariants.{Duplicated, Inherited}
use Rattle.ob_model.specs.Procedures.{Procedures}
use Rattle.ob_model.specs.Settle.{settle}
use Rattle.ob_model.specs.Grants.{open_refusal, with_open, with_handle}
use Rattle.ob_model.specs.Closing.{closed_handle}
use Rattle.ob_model.specs.Refusals.{gives, answers, IsRefused, Unless}
use Rattle.ob_model.specs.Opens.{GivesHandle}

-- the most live processes
abbrev pub most_processes : ℕ
most_processes = 1024

module _ {K T F I : Type 0} where
  -- the handles of a process, in the order in which they were opened
  abbrev pub handles_in : State K T F I → ℕ → List Held
  handles_in s p = filter (λ h. h.process == p) s.handles

  -- their values
  abbrev pub values_in : State K T F I → ℕ → List ℕ
  values_in s p = map (λ h. h.value) (handles_in s p)

  -- those of them that a child inherits, where it inherits any
  abbrev pub inherited_from : State K T F I → ℕ → Bool → List Held
  inherited_from s p inherit = filter (λ h. h.inherit && inherit) (handles_in s p)

  -- no process more may live, or no number is left for one, or too few orders for what it inherits
  abbrev pub is_crowded : State K T F I → ℕ → Bool → Bool
  is_crowded s p inherit =
      nat_le most_processes (length s.processes) || nat_lt greatest_process s.next_process
      || nat_lt (greatest_number + 1) (s.next_order + length (inherited_from s p inherit))

  -- the state with a child of a process: it has the next number, and its parent's map
  abbrev pub with_child : State K T F I → ℕ → State K T F I
  with_child s p = record s {
    processes = s.processes ++ record { number = s.next_process; map = option_and_then (λ x. x.map) (process_of s p) } ∷ [];
    next_process = s.next_process + 1;
  }

  -- the state without a process
  abbrev pub without_process : State K T F I → ℕ → State K T F I
  without_process s p = record s { processes = filter (λ x. not (x.number == p)) s.processes }

module _ {K T F I : Type 0} (g : Procedures K T F I) where
  -- a child inherits a handle under the same value, and can hand it on; where the set refuses to open its
  -- object the child lacks it, and the order that was drawn for it is no handle's
  abbrev pub inherits_one : State K T F I → ℕ → Held → State K T F I
  inherits_one s child h =
      option_map_or (λ _. record s { next_order = s.next_order + 1 }) (open_refusal g s h.object Inherited)
      (with_handle (with_open g s h.object Inherited) child h.value h.object true)

  abbrev pub inherits : State K T F I → ℕ → List Held → State K T F I
  inherits s child [] = s
  inherits s child (h ∷ hs) = inherits (inherits_one s child h) child hs

  -- those of these handles that it inherits: the set opens their objects, as the opens before it left them
  abbrev pub accepted : State K T F I → ℕ → List Held → List Held
  accepted s child [] = []
  accepted s child (h ∷ hs) =
      let later = accepted (inherits_one s child h) child hs in
      option_map_or (λ _. later) (open_refusal g s h.object Inherited) (h ∷ later)

  -- the state in which a child of a process has begun, before it settles
  abbrev pub begun : State K T F I → ℕ → Bool → State K T F I
  begun s p inherit = inherits (with_child s p) s.next_process (inherited_from s p inherit)

  -- handles are closed, one after another
  abbrev pub closed_in_turn : State K T F I → List Held → State K T F I
  closed_in_turn s [] = s
  closed_in_turn s (h ∷ hs) = closed_in_turn (closed_handle g s h) hs

  -- the state in which a process has ended, before it settles: its handles are closed in the order in
  -- which they were opened, and it is live no longer
  abbrev pub ended : State K T F I → ℕ → State K T F I
  ended s p = without_process (closed_in_turn s (handles_in s p)) p

  -- a handle of the caller is duplicated into a process, which may be the caller itself
  abbrev pub Duplicates : State K T F I → ℕ → ℕ → ℕ → Bool → Answer → State K T F I → Type 0
  Duplicates s p handle to inherit answer t =
      Unless ((not (is_live s p), ProcessGone) ∷ (not (is_live s to), ProcessGone) ∷ []) s answer t
      (MatchOption (option_and_then (held_of s p) (key_of handle)) (IsRefused s InvalidHandle answer t)
      (λ h. GivesHandle g s to h.object (record { inherit = inherit; exclusive = false }) Duplicated Success answer t))

  -- a process makes a child, and the answer is its number and the values that it inherited
  abbrev pub MakesChild : State K T F I → ℕ → Bool → Answer → State K T F I → Type 0
  MakesChild s p inherit answer t =
      Unless ((not (is_live s p), ProcessGone) ∷ (is_crowded s p inherit, InsufficientResources) ∷ []) s answer t
      (let u = begun s p inherit in (answer ≡ gives Success (Process s.next_process (values_in u s.next_process))) × (t ≡ settle g u))

  -- a process exits
  abbrev pub Exits : State K T F I → ℕ → Answer → State K T F I → Type 0
  Exits s p answer t = Unless ((not (is_live s p), ProcessGone) ∷ []) s answer t ((answer ≡ answers Success) × (t ≡ settle g (ended s p)))
