-- The entry of least stamp among those that a test keeps is the first that it keeps.
use Rattle.std.proofs.Common.{◌≡◌, ℕ, zero, suc, Bool, true, false, cond, List, [], ◌∷◌, filter, find, Option, None, Some, MatchOption, All, refl, ap, arith, nat_le, le-leb}
use Rattle.std.proofs.lemmas.List.Elements.{All-head, All-tail, All-filter}
use Rattle.ob_dirs.specs.declared.entry.DirEntry.{DirEntry}
use Rattle.ob_dirs.specs.Dir.{ComesBefore, IsDir, earlier_entry, earliest_entry, entry_found, is_named}

-- of a directory's entries the first comes before the others, and these are a directory's too
pub first_comes_before : (e : DirEntry) (es : List DirEntry) → IsDir (e ∷ es) → All (ComesBefore e) es
first_comes_before e es is k d below = is zero (suc k) d (omega arith) (omega (arith, below))

pub others_are_dir : (e : DirEntry) (es : List DirEntry) → IsDir (e ∷ es) → IsDir es
others_are_dir e es is i j d before below = is (suc i) (suc j) d (omega (arith, before)) (omega (arith, below))

-- what holds of each entry holds of the earliest
earlier_holds : (P : DirEntry → Type 0) (e : DirEntry) (o : Option DirEntry) → P e → MatchOption o (Unit {0}) P → P (earlier_entry e o)
earlier_holds P e None here there = here
earlier_holds P e (Some x) here there = go (nat_le e.stamp x.stamp)
  where
    go : (b : Bool) → P (cond b e x)
    go true = here
    go false = there

earliest_holds : (P : DirEntry → Type 0) (es : List DirEntry) → All P es → MatchOption (earliest_entry es) (Unit {0}) P
earliest_holds P [] each = tt
earliest_holds P (e ∷ es) each = earlier_holds P e (earliest_entry es) (All-head P e es each) (earliest_holds P es (All-tail P e es each))

-- an entry that comes before the other, or stands alone, is the earlier
stays_earlier : (e : DirEntry) (o : Option DirEntry) → MatchOption o (Unit {0}) (ComesBefore e) → earlier_entry e o ≡ e
stays_earlier e None before = refl
stays_earlier e (Some x) before = ap (λ b. cond b e x) (le-leb e.stamp x.stamp (omega (arith, before.0)))

pub earliest-filter : (test : DirEntry → Bool) (es : List DirEntry) → IsDir es → earliest_entry (filter test es) ≡ find test es
earliest-filter test [] is = refl
earliest-filter test (e ∷ es) is = go (test e) (earliest-filter test es (others_are_dir e es is))
  where
    go : (b : Bool) → earliest_entry (filter test es) ≡ find test es
        → earliest_entry (cond b (e ∷ filter test es) (filter test es)) ≡ cond b (Some e) (find test es)
    go true more =
        ap Some (stays_earlier e (earliest_entry (filter test es))
        (earliest_holds (ComesBefore e) (filter test es) (All-filter test (ComesBefore e) es (first_comes_before e es is))))
    go false more = more

-- what is found is the first entry that is named so
pub found_is_first : (es : List DirEntry) (component : List ℕ) (fold : Bool) → IsDir es → entry_found es component fold ≡ find (is_named component fold) es
found_is_first es component fold is = earliest-filter (is_named component fold) es is
