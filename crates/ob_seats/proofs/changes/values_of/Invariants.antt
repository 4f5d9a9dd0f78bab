-- The set has the values of the handles so far.
use Rattle.std.proofs.Common.{◌≡◌, ℕ, take}
use Rattle.std.specs.BTreeSet.{contains}
use Rattle.std.specs.Ordering.{nat_cmp}
use Rattle.ob_requests.specs.Variables.{is_among}
use Rattle.ob_seats.proofs.changes.values_of.Given as goal

abbrev pub invariant-loop-handle : goal.invariant-loop-handle
invariant-loop-handle l = (value : ℕ) → contains nat_cmp l.values value ≡ is_among (take l.handle-index l.handles) value
