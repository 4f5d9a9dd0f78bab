use Rattle.std.proofs.Common.{◌≡◌, ◌≤◌, take, length}
use Rattle.std.specs.Str.Parse.{AllDigits, digits_value}
use Rattle.ob_parts.proofs.flags.raw_bits_of.Given as goal

abbrev pub invariant-loop-digit : goal.invariant-loop-digit
invariant-loop-digit l =
    (l.bits ≡ digits_value 16 (take l.digit-index l.digits)) × AllDigits 16 (take l.digit-index l.digits) × (length l.digits ≤ 8)
