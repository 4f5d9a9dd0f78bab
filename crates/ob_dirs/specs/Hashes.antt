-- Hashes of names.
--
-- Sources: FNV-1a, of 64 bits; that a name is hashed without regard to the case of its letters is this profile.
use Rattle.std.specs.Prelude.{ℕ, ◌*◌, ◌%◌, ◌^◌, List, fold, map, bit_xor}
use Rattle.ob_model.specs.Names.{upper}

-- a hash after one byte more
abbrev pub mixed : ℕ → ℕ → ℕ
mixed hash byte = (bit_xor hash byte * 1099511628211) % 2 ^ 64

-- the hash of a name: of its bytes, with a to z taken to A to Z, one after another
abbrev pub folded_hash : List ℕ → ℕ
folded_hash bytes = fold mixed 14695981039346656037 bytes

unfoldable pub name_hash : List ℕ → ℕ
name_hash name = folded_hash (map upper name)
