-- The rest of a name that a lookup leaves: its bytes, lent or its own.
--
-- Source: this profile.
use Rattle.std.specs.Prelude.{ℕ, List}
use Rattle.ob_lookup.specs.declared.terms.Part.{Part}
use Rattle.ob_lookup.specs.declared.terms.Part.TheVariants.{Lent, Owned}

-- the bytes of a part
abbrev pub bytes_of : Part → List ℕ
bytes_of (Lent name) = name
bytes_of (Owned name) = name
