-- The numbers of types: 0 is any type, 1 a directory, 2 a symbolic link, and then the kinds of a caller's objects in
-- their order.
--
-- Source: this profile; the names are those of Windows Internals, Object Manager (object types).
use Rattle.std.specs.Prelude.{◌≡◌, ℕ, ◌+◌, List, ◌⊎◌, codes}
use Rattle.ob_host.specs.Kinds.{index_of, name_of}
use Rattle.ob_host.specs.declared.kind.Kind.{Kind}
use Rattle.ob_numbers.specs.Texts.{zero_ended}

abbrev pub directory_type : ℕ
directory_type = 1

abbrev pub link_type : ℕ
link_type = 2

-- the number of a kind
abbrev pub type_of_kind : Kind → ℕ
type_of_kind kind = index_of kind + 3

-- a type has this name and this number
abbrev pub IsType : List ℕ → ℕ → Type 0
IsType name n =
    ((name ≡ codes "Directory") × (n ≡ directory_type)) ⊎ ((name ≡ codes "SymbolicLink") × (n ≡ link_type))
    ⊎ ((kind : Kind) × (name ≡ name_of kind) × (n ≡ type_of_kind kind))

-- the number of the type of a name; 0 where no type has that name
abbrev pub IsTypeNumber : List ℕ → ℕ → Type 0
IsTypeNumber name n = IsType name n ⊎ ((n ≡ 0) × ((k : ℕ) → IsType name k → ⊥))

-- the name of the type that has this number, as a caller in C reads it
abbrev pub IsTypeText : ℕ → List ℕ → Type 0
IsTypeText n text = (name : List ℕ) × IsType name n × (text ≡ zero_ended name)
