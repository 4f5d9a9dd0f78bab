-- The handles that a process begins with, as they come from those that it inherits.
--
-- Sources: Windows Internals, Processes (inheritance of handles); the orders of opening are this profile.
use Rattle.std.specs.Prelude.{ℕ, ◌+◌, true, List, [], ◌∷◌}
use Rattle.ob_model.specs.declared.state.Held.{Held}

-- a process has these handles under their values, in their order, from this order of opening on
abbrev pub handed_on : ℕ → ℕ → List Held → List Held
handed_on process order [] = []
handed_on process order (h ∷ hs) =
    record { process = process; value = h.value; object = h.object; inherit = true; order = order } ∷ handed_on process (order + 1) hs
