-- The bytes so far are in the hash.
use Rattle.std.proofs.Common.{◌≡◌, map, take}
use Rattle.ob_model.specs.Names.{upper}
use Rattle.ob_rows.specs.Hashes.{folded_hash}
use Rattle.ob_rows.proofs.index.row_hash.Given as goal

abbrev pub invariant-loop-byte : goal.invariant-loop-byte
invariant-loop-byte l = l.hash ≡ folded_hash l.fn.directory (map upper (take l.byte-index l.name))
