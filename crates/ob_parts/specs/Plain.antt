-- The test of a byte that stands for itself.
--
-- Source: this profile.
use Rattle.std.specs.Prelude.{ℕ, Bool, ◌&&◌, not, ◌==◌, nat_le}

-- a byte passes that is from 0x20 to 0x7E, but not `"` (0x22) and not `%` (0x25)
abbrev pub is_plain : ℕ → Bool
is_plain c = nat_le 0x20 c && nat_le c 0x7E && not (c == 0x22) && not (c == 0x25)
