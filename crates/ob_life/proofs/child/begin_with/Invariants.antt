-- The child has inherited those that were passed, and the others are still to come.
use Rattle.std.proofs.Common.{◌≡◌, ◌≤◌, length, drop, vec_len, vec_capacity}
use Rattle.ob_model.specs.Processes.{values_in}
use Rattle.ob_life.specs.Coming.{with_coming}
use Rattle.ob_life.proofs.Beginnings.{after}
use Rattle.ob_life.proofs.child.begin_with.Given as goal

abbrev pub invariant-loop-held : goal.invariant-loop-held
invariant-loop-held g l =
    record {
      state : l.space ≡ with_coming (after g.T.TypeSet.procedures l.fn.space l.fn.parent l.fn.inherited l.held-index) l.fn.space.next_process (drop l.held-index l.fn.inherited);
      values : l.values.items ≡ values_in (after g.T.TypeSet.procedures l.fn.space l.fn.parent l.fn.inherited l.held-index) l.fn.space.next_process;
      child : l.child ≡ l.fn.space.next_process;
      few : vec_len l.values ≤ l.held-index;
      room : length l.fn.inherited ≤ vec_capacity l.values;
    }
