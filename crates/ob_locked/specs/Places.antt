-- The places of a journal's open segment: those that are used, and those that are reserved for the opens that wait.
--
-- Source: this profile.
use Rattle.std.specs.Prelude.{ℕ, ◌+◌, List, [], ◌∷◌}
use Rattle.std.specs.Option.{option_map_or}
use Rattle.ob_model.specs.declared.state.PendingOpen.{PendingOpen}
use Rattle.ob_model.specs.PendingOpens.{pending_of}
use Rattle.ob_model.specs.State.{State}

-- the places that a start may come to take: its own, and where its open waits one for each of the 32 reparses that may be
-- left to it, and one for its end
abbrev pub places_of_start : ℕ
places_of_start = 34

-- the places that opens that wait have reserved: each one for each reparse that is left to it, and one for its end
abbrev pub places_for : {K : Type 0} → List (PendingOpen K) → ℕ
places_for [] = 0
places_for (x ∷ xs) = x.left + 1 + places_for xs

-- the places that the open of a ticket has reserved, where one waits under it
abbrev pub places_of : {K T F I : Type 0} → State K T F I → ℕ → ℕ
places_of s ticket = option_map_or (λ x. x.left + 1) (pending_of s ticket) 0
