-- Splitting: how a split of a text goes on.
use Rattle.std.specs.Prelude.{◌≡◌, ◌≢◌, ℕ, ◌<◌, ◌≤◌, List, [], ◌∷◌, ◌++◌, length, slice_index}
use Rattle.ob_model.specs.Names.{separator, IsSplit, next_component, after_component}

-- where the rest of a split has a next component, that component after the others and what is
-- after it are a split of the same text
abbrev pub SplitsGoOn : Type 0
SplitsGoOn =
    (text rest : List ℕ) (components : List (List ℕ)) → IsSplit text components rest → next_component rest ≢ []
    → IsSplit text (components ++ next_component rest ∷ []) (after_component rest)

-- a text has one split before a rest
abbrev pub SplitsAreUnique : Type 0
SplitsAreUnique =
    (text rest : List ℕ) (cs ds : List (List ℕ)) → IsSplit text cs rest → IsSplit text ds rest → cs ≡ ds

-- the text's first separator is at n, or n is its length where it has none
pub record IsFirstSeparator (text : List ℕ) (n : ℕ) : Type 0 where
  pub inside : n ≤ length text
  pub before : (k : ℕ) → k < n → slice_index text k ≢ separator
  pub here : n < length text → slice_index text n ≡ separator
