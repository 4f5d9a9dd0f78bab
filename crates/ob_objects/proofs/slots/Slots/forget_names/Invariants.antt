-- Of the entries that are left, and of those before them, the objects' places are forgotten in the end.
use Rattle.std.proofs.Common.{◌≡◌, ◌==◌, ℕ, None, cond}
use Rattle.std.specs.List.{list_any}
use Rattle.ob_objects.specs.Slots.{objects_in, place_in, StayFilled}
use Rattle.ob_objects.specs.Store.{entries_in}
use Rattle.ob_objects.proofs.slots.Slots.forget_names.Given as goal

abbrev pub invariant-loop-entry : goal.invariant-loop-entry
invariant-loop-entry g l =
    ((id : ℕ) → cond (list_any (λ e. e.object == id) l.entry-iterator) None (place_in l.self id)
    ≡ cond (list_any (λ e. e.object == id) (entries_in l.fn.stored.body)) None (place_in l.fn.self id))
    × (objects_in l.self ≡ objects_in l.fn.self) × StayFilled l.fn.self l.self
