-- Hashes of a directory and of a name in it.
--
-- Sources: FNV-1a, of 64 bits; that a name is hashed without regard to the case of its letters, after the number of
-- its directory, is this profile.
use Rattle.std.specs.Prelude.{ℕ, ◌*◌, ◌%◌, ◌^◌, List, fold, map, bit_xor}
use Rattle.ob_model.specs.Names.{upper}

-- a hash after one number more
abbrev pub mixed : ℕ → ℕ → ℕ
mixed hash number = (bit_xor hash number * 1099511628211) % 2 ^ 64

-- the hash of a directory and of bytes, one after another
abbrev pub folded_hash : ℕ → List ℕ → ℕ
folded_hash directory bytes = fold mixed (mixed 14695981039346656037 directory) bytes

-- the hash of a directory and of a name, with a to z taken to A to Z
unfoldable pub row_hash : ℕ → List ℕ → ℕ
row_hash directory name = folded_hash directory (map upper name)
