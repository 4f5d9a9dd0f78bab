-- The first calls of a set, in a list with room for some, and the number of the others.
use Rattle.std.specs.Prelude.{ℕ, List, [], ◌∷◌, ◌++◌, length, ltb, cond}
use Rattle.ob_plain.specs.Counting.{counted}
use Rattle.ob_plain.specs.declared.calls.Call.{Call}

-- the calls that are kept, how many there is room for, and the number of the others
pub record Kept : Type 0 where
  pub calls : List Call
  pub room : ℕ
  pub lost : ℕ

-- no call yet
abbrev pub none_kept : ℕ → Kept
none_kept room = record { calls = []; room = room; lost = 0 }

-- one call more: after the others where there is room, and else counted
abbrev pub noted : Kept → Call → Kept
noted kept call = cond (ltb (length kept.calls) kept.room) (record kept { calls = kept.calls ++ (call ∷ []) }) (record kept { lost = counted kept.lost })

-- calls, one after another
abbrev pub all_noted : Kept → List Call → Kept
all_noted kept [] = kept
all_noted kept (call ∷ rest) = all_noted (noted kept call) rest
