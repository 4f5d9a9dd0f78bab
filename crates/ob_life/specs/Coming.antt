-- A child that has its handles before the set opens their objects for it: the state with handles that are
-- still to come.
--
-- Source: this profile.
use Rattle.std.specs.Prelude.{ℕ, ◌+◌, List, ◌++◌, length}
use Rattle.ob_model.specs.declared.state.Held.{Held}
use Rattle.ob_model.specs.State.{State}
use Rattle.ob_processes.specs.Handed.{handed_on}

-- the state in which a process has these handles too, which come in their order
abbrev pub with_coming : {K T F I : Type 0} → State K T F I → ℕ → List Held → State K T F I
with_coming s process coming = record s {
  handles = s.handles ++ handed_on process s.next_order coming;
  next_order = s.next_order + length coming;
}
