-- The values so far are there, in the room that is left.
use Rattle.std.proofs.Common.{◌≡◌, ◌≤◌, take, length, vec_len, vec_capacity}
use Rattle.ob_locked.proofs.rooms.values_in.Given as goal

abbrev pub invariant-loop-value : goal.invariant-loop-value
invariant-loop-value l = (l.copy.items ≡ take l.value-index l.values) × (vec_len l.copy ≡ l.value-index) × (length l.values ≤ vec_capacity l.copy)
