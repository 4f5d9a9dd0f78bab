-- Order: how far the entries of a journal came in order, as the check of it follows them.
--
-- Source: this profile.
use Rattle.std.specs.Prelude.{ℕ, zero, suc, ◌==◌, Bool, true, false, if◌then◌else◌}
use Rattle.std.specs.List.{fold}
use Rattle.ob_seats.specs.Received.{Entries}
use Rattle.ob_threads.specs.declared.order.Order.{Order}
use Rattle.ob_threads.specs.declared.order.Order.TheVariants.{Begun, Joined, Broken}

-- with an entry of this seat more
abbrev pub after : Order → ℕ → Order
after (Begun zero) seat = if seat == 0 then Joined else Begun 0
after (Begun (suc left)) seat = if seat == 0 then Begun left else Broken
after Joined seat = if seat == 0 then Joined else Broken
after Broken seat = Broken

-- with these entries more
abbrev pub followed : Order → Entries → Order
followed order entries = fold (λ o e. after o e.seat) order entries

-- a journal that came so far is whole
abbrev pub is_whole : Order → Bool
is_whole (Begun zero) = true
is_whole (Begun (suc left)) = false
is_whole Joined = true
is_whole Broken = false
