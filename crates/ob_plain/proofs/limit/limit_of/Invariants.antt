use Rattle.std.proofs.Common.{◌≡◌, drop}
use Rattle.ob_plain.specs.Limits as limits
use Rattle.ob_plain.proofs.limit.limit_of.Given as goal

-- what the digits that are left make behind the number so far is what all of them make
abbrev pub invariant-loop-byte : goal.invariant-loop-byte
invariant-loop-byte l = limits.digits_behind l.total (drop l.byte-index l.rest) ≡ limits.digits_behind l.initial.total l.rest
