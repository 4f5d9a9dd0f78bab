-- Tables of paths: lists of paths, which are compared byte by byte.
--
-- Source: this profile.
use Rattle.std.specs.Prelude.{ℕ, Bool, ◌==◌, List, length}
use Rattle.std.specs.Cmp.Lexicographic.{pointwise}
use Rattle.std.specs.List.{list_any}
use Rattle.ob_plain.specs.Arguments.{same_path}

-- the table has the path
abbrev pub has_path : List (List ℕ) → List ℕ → Bool
has_path table path = list_any (λ other. same_path other path) table

-- a path of the table is empty
abbrev pub has_empty_path : List (List ℕ) → Bool
has_empty_path table = list_any (λ path. length path == 0) table

-- two tables have the same paths in the same order
abbrev pub same_tables : List (List ℕ) → List (List ℕ) → Bool
same_tables a b = pointwise same_path a b
