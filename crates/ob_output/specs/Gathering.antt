-- How output is written: what a writer and a block hold. Source: this profile.
use Rattle.std.specs.Prelude.{◌≡◌, ℕ, List, ◌++◌, Option}
use Rattle.std.specs.Io.KnownBytes.{Appends}

-- These bytes were put after those that a block had: of both in a row a front was written, and the
-- block has the rest.
pub record Gathers (old new : Option (List ℕ)) (had bytes has : List ℕ) : Type 0 where
  pub front : List ℕ
  pub joined : had ++ bytes ≡ front ++ has
  pub written : Appends old new front
