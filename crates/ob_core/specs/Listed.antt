-- Handles and processes, as a caller lists them: one after another.
--
-- Source: the orders of opening and the numbers of processes are this profile.
use Rattle.std.specs.Prelude.{ℕ, ◌==◌, ◌&&◌, nat_lt, Option}
use Rattle.std.specs.List.{find}
use Rattle.std.specs.Option.{option_map}
use Rattle.ob_model.specs.declared.state.Held.{Held}
use Rattle.ob_model.specs.State.{State}

module _ {K T F I : Type 0} where
  -- the handle of a process that was opened first after an order of opening
  abbrev pub handle_after : State K T F I → ℕ → ℕ → Option Held
  handle_after s p order = find (λ h. h.process == p && nat_lt order h.order) s.handles

  -- the live process of the least number above another
  abbrev pub process_after : State K T F I → ℕ → Option ℕ
  process_after s p = option_map (λ x. x.number) (find (λ x. nat_lt p x.number) s.processes)
