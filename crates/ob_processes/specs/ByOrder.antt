-- The handles of many processes in one list, in the order in which they were opened.
--
-- Source: this profile.
use Rattle.std.specs.Prelude.{ℕ, ◌<◌, List}
use Rattle.std.specs.List.{AllPairs}
use Rattle.ob_model.specs.declared.state.Held.{Held}
use Rattle.ob_model.specs.Sorted.{sorted_by}

-- the order in which a handle was opened
abbrev pub order_of : Held → ℕ
order_of h = h.order

-- these handles by rising orders; handles of one order keep their order
abbrev pub by_order : List Held → List Held
by_order handles = sorted_by order_of handles

-- each handle was opened before those after it
abbrev pub OrdersRise : List Held → Type 0
OrdersRise handles = AllPairs (λ a b. a.order < b.order) handles
