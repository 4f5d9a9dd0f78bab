-- All values so far lead to rows.
use Rattle.std.proofs.Common.{◌≡◌, ℕ, ◌<◌, eqb, true, is_some}
use Rattle.indexmap.specs.IndexMap.{get}
use Rattle.slab.specs.Slab.{get as row}
use Rattle.ob_handles.specs.Values.{behind, key_in}
use Rattle.ob_handles.proofs.values.next_unused.Given as goal

abbrev pub invariant-loop-step : goal.invariant-loop-step
invariant-loop-step l = (k : ℕ) → k < l.step → is_some (key_in (row l.rows) (get eqb l.foreign) (behind l.fourth k)) ≡ true
