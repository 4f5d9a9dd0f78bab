-- Entries in runs, one run after another: what is looked up in them, and where.
--
-- Source: this profile.
use Rattle.std.specs.Prelude.{◌≡◌, ℕ, ◌+◌, ◌^◌, ◌<◌, ◌≤◌, Bool, true, nat_lt, List, [], ◌∷◌, ◌++◌, length, take, drop, map, slice_index_or, All, Vec}
use Rattle.std.specs.List.{AllPairs, flat_map}
use Rattle.std.specs.declared.alloc.Global.{Global}
use Rattle.ob_dirs.specs.declared.entry.DirEntry.{DirEntry}

-- the stamps of entries rise strictly
abbrev pub Rises : List DirEntry → Type 0
Rises entries = AllPairs (λ a b. a.stamp < b.stamp) entries

-- the entries of a run, and of runs, one after another
abbrev pub entries_of : Vec DirEntry Global → List DirEntry
entries_of run = run.items

abbrev pub joined : List (Vec DirEntry Global) → List DirEntry
joined runs = flat_map entries_of runs

-- the entries of the run at a place; none after the last
abbrev pub run_at : List (Vec DirEntry Global) → ℕ → List DirEntry
run_at runs place = slice_index_or (map entries_of runs) place []

-- no run is empty
abbrev pub AreFilled : List (Vec DirEntry Global) → Type 0
AreFilled runs = All (λ run. 0 < length run.items) runs

-- what runs hold: entries by rising stamps, counted in 64 bits, and no empty run
pub record AreRuns (runs : List (Vec DirEntry Global)) (count : ℕ) : Type 0 where
  pub rises : Rises (joined runs)
  pub filled : AreFilled runs
  pub counted : count ≡ length (joined runs)
  pub small : count < 2 ^ 64

-- the stamps of all entries are below one, and none is
abbrev pub AreBelow : ℕ → List DirEntry → Type 0
AreBelow stamp entries = All (λ e. e.stamp < stamp) entries

abbrev pub AreFrom : ℕ → List DirEntry → Type 0
AreFrom stamp entries = All (λ e. stamp ≤ e.stamp) entries

-- the last entry's stamp is below one, or there is no entry
abbrev pub last_is_below : ℕ → List DirEntry → Bool
last_is_below stamp [] = true
last_is_below stamp (e ∷ []) = nat_lt e.stamp stamp
last_is_below stamp (e ∷ f ∷ es) = last_is_below stamp (f ∷ es)

-- the entries before a place in a run of these runs, and those from there on
abbrev pub before : List (Vec DirEntry Global) → ℕ → ℕ → List DirEntry
before runs run at = joined (take run runs) ++ take at (run_at runs run)

abbrev pub from_on : List (Vec DirEntry Global) → ℕ → ℕ → List DirEntry
from_on runs run at = drop at (run_at runs run) ++ joined (drop (run + 1) runs)

-- a place in these runs where an entry is
pub record IsInRuns (runs : List (Vec DirEntry Global)) (run at : ℕ) : Type 0 where
  pub run_in : run < length runs
  pub at_in : at < length (run_at runs run)

-- the place of the first entry whose stamp isn't below one
pub record IsPlaceOf (runs : List (Vec DirEntry Global)) (stamp run at : ℕ) : Type 0 where
  pub here : IsInRuns runs run at
  pub below : AreBelow stamp (before runs run at)
  pub from : AreFrom stamp (from_on runs run at)
