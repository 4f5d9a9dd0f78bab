-- The objects that were put in, and those that are still to be, are all; and there is room for these.
use Rattle.std.proofs.Common.{◌≡◌, ◌≤◌, ◌+◌, ◌++◌, length, vec_len, vec_capacity}
use Rattle.std.specs.Map.{keys_of}
use Rattle.ob_handles.proofs.places.in_order.Given as goal

abbrev pub invariant-loop-id : goal.invariant-loop-id
invariant-loop-id l =
    record {
      all : l.ids.items ++ l.id-iterator ≡ keys_of l.numbers.entries;
      fits : vec_len l.ids + length l.id-iterator ≤ vec_capacity l.ids;
    }
