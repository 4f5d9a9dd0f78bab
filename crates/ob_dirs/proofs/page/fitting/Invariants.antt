-- The entries that fit from the first one on are those before, and those that fit of the ones that are left.
use Rattle.std.proofs.Common.{◌≡◌, ◌+◌, ℕ, List, length, map, false}
use Rattle.ob_dirs.specs.Page.{TellsLengths, fit_of, shown_entry}
use Rattle.ob_dirs.proofs.page.fitting.Given as goal

abbrev pub invariant-loop-entry : goal.invariant-loop-entry
invariant-loop-entry g l =
    goal.F-IsAlwaysCallable g l.len_of × (l.fit.more ≡ false) × (l.fit.count + length l.behind ≡ length l.fn.behind)
    × ((type_name : ℕ → List ℕ) → TellsLengths (λ f id n h. goal.F-step g f id n h) l.fn.len_of type_name
    → TellsLengths (λ f id n h. goal.F-step g f id n h) l.len_of type_name
    × (fit_of (map (shown_entry type_name) l.behind) l.fit.count l.fit.context l.free l.single
    ≡ fit_of (map (shown_entry type_name) l.fn.behind) 0 l.fn.context l.fn.room l.fn.single))

abbrev pub decreases-loop-entry : goal.decreases-loop-entry
decreases-loop-entry g l = length l.behind
