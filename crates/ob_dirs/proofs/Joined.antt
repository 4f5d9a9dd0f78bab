-- Lists one behind another, runs of entries, and what is kept of them.
use Rattle.std.proofs.Common.{◌≡◌, ◌∙◌, ℕ, zero, suc, ◌+◌, ◌<◌, ◌≤◌, List, [], ◌∷◌, ◌++◌, length, take, drop, get_or, slice_set, All, refl, ap, sym, arith, Vec, add-one, append_assoc}
use Rattle.std.specs.List.{AllPairs, AllWithin}
use Rattle.std.specs.declared.alloc.Global.{Global}
use Rattle.std.proofs.lemmas.List.{append-nil, take-append-drop}
use Rattle.std.proofs.lemmas.List.Elements.{All-nil, All-cons, All-head, All-tail}
use Rattle.std.proofs.lemmas.List.Kept.{AllPairs-cons}
use Rattle.ob_dirs.specs.declared.entry.DirEntry.{DirEntry}
use Rattle.ob_dirs.specs.Runs.{before, entries_of, from_on, joined, run_at}

-- ---- two lists, one behind the other

module _ {X : Type 0} (P : X → Type 0) where
  pub All-left : (xs ys : List X) → All P (xs ++ ys) → All P xs
  All-left [] ys each = All-nil P
  All-left (x ∷ xs) ys each = All-cons P x xs (All-head P x (xs ++ ys) each) (All-left xs ys (All-tail P x (xs ++ ys) each))

  pub All-right : (xs ys : List X) → All P (xs ++ ys) → All P ys
  All-right [] ys each = each
  All-right (x ∷ xs) ys each = All-right xs ys (All-tail P x (xs ++ ys) each)

  -- what holds up to a place holds of the first elements, and what holds from there on of the others
  pub All-first : (xs : List X) (i : ℕ) → i ≤ length xs → AllWithin P xs 0 i → All P (take i xs)
  All-first xs zero within each = All-nil P
  All-first [] (suc i) within each = absurd (omega (arith, within))
  All-first (x ∷ xs) (suc i) within each =
      All-cons P x (take i xs) (each 0 x (omega arith) (omega arith))
      (All-first xs i (omega (arith, within)) (λ k d low high. each (suc k) d (omega arith) (omega (arith, high))))

  pub All-others : (xs : List X) (i : ℕ) → AllWithin P xs i (length xs) → All P (drop i xs)
  All-others xs zero each = λ k d below. each k d (omega arith) below
  All-others [] (suc i) each = All-nil P
  All-others (x ∷ xs) (suc i) each = All-others xs i (λ k d low high. each (suc k) d (omega (arith, low)) (omega (arith, high)))

module _ {X : Type 0} (R : X → X → Type 0) where
  pub pairs-head : (x : X) (xs : List X) → AllPairs R (x ∷ xs) → All (R x) xs
  pairs-head x xs is k d below = is zero (suc k) d (omega arith) (omega (arith, below))

  pub pairs-tail : (x : X) (xs : List X) → AllPairs R (x ∷ xs) → AllPairs R xs
  pairs-tail x xs is i j d first below = is (suc i) (suc j) d (omega (arith, first)) (omega (arith, below))

  pub pairs-left : (xs ys : List X) → AllPairs R (xs ++ ys) → AllPairs R xs
  pairs-left [] ys is = λ i j d first below. absurd (omega (arith, below))
  pairs-left (x ∷ xs) ys is =
      AllPairs-cons R x xs (All-left (R x) xs ys (pairs-head x (xs ++ ys) is)) (pairs-left xs ys (pairs-tail x (xs ++ ys) is))

  pub pairs-right : (xs ys : List X) → AllPairs R (xs ++ ys) → AllPairs R ys
  pairs-right [] ys is = is
  pairs-right (x ∷ xs) ys is = pairs-right xs ys (pairs-tail x (xs ++ ys) is)

  pub pairs-across : (xs ys : List X) → AllPairs R (xs ++ ys) → All (λ x. All (R x) ys) xs
  pairs-across [] ys is = All-nil (λ x. All (R x) ys)
  pairs-across (x ∷ xs) ys is =
      All-cons (λ z. All (R z) ys) x xs (All-right (R x) xs ys (pairs-head x (xs ++ ys) is)) (pairs-across xs ys (pairs-tail x (xs ++ ys) is))

regrouped : (a b c d : List DirEntry) → (a ++ b) ++ (c ++ d) ≡ a ++ ((b ++ c) ++ d)
regrouped a b c d = append_assoc a b (c ++ d) ∙ ap (λ l. a ++ l) (sym (append_assoc b c d))

-- ---- runs

abbrev pub Run : Type 0
Run = Vec DirEntry Global

-- the run at a place
pub run_at-is : (runs : List Run) (i : ℕ) (run : Run) → i < length runs → run_at runs i ≡ (get_or runs i run).items
run_at-is [] i run below = absurd (omega (arith, below))
run_at-is (r ∷ runs) zero run below = refl
run_at-is (r ∷ runs) (suc i) run below = run_at-is runs i run (omega (arith, below))

pub run_at-read : (runs : List Run) (i : ℕ) (run : Run) → i < length runs → run ≡ get_or runs i run → run_at runs i ≡ run.items
run_at-read runs i run below is = run_at-is runs i run below ∙ ap entries_of (sym is)

-- what holds of it wherever it is read
pub run_at-holds : (P : List DirEntry → Type 0) (runs : List Run) (i : ℕ) → i < length runs → ((d : Run) → P (get_or runs i d).items) → P (run_at runs i)
run_at-holds P [] i below holds = absurd (omega (arith, below))
run_at-holds P (r ∷ runs) zero below holds = holds r
run_at-holds P (r ∷ runs) (suc i) below holds = run_at-holds P runs i (omega (arith, below)) holds

-- the entries before a run, those of the run, and those behind it
cut_at : (runs : List Run) (i : ℕ) → i < length runs → joined runs ≡ joined (take i runs) ++ (run_at runs i ++ joined (drop (suc i) runs))
cut_at [] i below = absurd (omega (arith, below))
cut_at (r ∷ runs) zero below = refl
cut_at (r ∷ runs) (suc i) below =
    ap (λ l. r.items ++ l) (cut_at runs i (omega (arith, below)))
    ∙ sym (append_assoc r.items (joined (take i runs)) (run_at runs i ++ joined (drop (suc i) runs)))

pub joined-cut : (runs : List Run) (i : ℕ) → i < length runs → joined runs ≡ joined (take i runs) ++ (run_at runs i ++ joined (drop (i + 1) runs))
joined-cut runs i below = rw (add-one i) (cut_at runs i below)

-- the same at a place in the run
pub joined-split : (runs : List Run) (i at : ℕ) → i < length runs → joined runs ≡ before runs i at ++ from_on runs i at
joined-split runs i at below =
    joined-cut runs i below
    ∙ ap (λ l. joined (take i runs) ++ (l ++ joined (drop (i + 1) runs))) (sym (take-append-drop at (run_at runs i)))
    ∙ sym (regrouped (joined (take i runs)) (take at (run_at runs i)) (drop at (run_at runs i)) (joined (drop (i + 1) runs)))

-- ---- a run is written

set_at : (runs : List Run) (i : ℕ) (run : Run) → i < length runs → joined (slice_set runs i run) ≡ joined (take i runs) ++ (run.items ++ joined (drop (suc i) runs))
set_at [] i run below = absurd (omega (arith, below))
set_at (r ∷ runs) zero run below = refl
set_at (r ∷ runs) (suc i) run below =
    ap (λ l. r.items ++ l) (set_at runs i run (omega (arith, below)))
    ∙ sym (append_assoc r.items (joined (take i runs)) (run.items ++ joined (drop (suc i) runs)))

pub joined-set : (runs : List Run) (i : ℕ) (run : Run) → i < length runs → joined (slice_set runs i run) ≡ joined (take i runs) ++ (run.items ++ joined (drop (i + 1) runs))
joined-set runs i run below = rw (add-one i) (set_at runs i run below)

-- a run with the same entries changes nothing
pub joined-kept : (runs : List Run) (i : ℕ) (old new : Run) → i < length runs → old ≡ get_or runs i old → new.items ≡ old.items → joined (slice_set runs i new) ≡ joined runs
joined-kept runs i old new below is same =
    joined-set runs i new below
    ∙ ap (λ l. joined (take i runs) ++ (l ++ joined (drop (i + 1) runs))) (same ∙ sym (run_at-read runs i old below is))
    ∙ sym (joined-cut runs i below)

-- an entry more in the last run is the last of all
pub joined-pushed : (runs : List Run) (i : ℕ) (old new : Run) (e : DirEntry) → suc i ≡ length runs → old ≡ get_or runs i old → new.items ≡ old.items ++ e ∷ []
    → joined (slice_set runs i new) ≡ joined runs ++ e ∷ []
joined-pushed [] i old new e last is more = absurd (omega (arith, last))
joined-pushed (r ∷ []) zero old new e last is more =
    append-nil new.items ∙ more ∙ ap (λ (l : Run). l.items ++ e ∷ []) is ∙ ap (λ l. l ++ e ∷ []) (sym (append-nil r.items))
joined-pushed (r ∷ []) (suc i) old new e last is more = absurd (omega (arith, last))
joined-pushed (r ∷ s ∷ runs) zero old new e last is more = absurd (omega (arith, last))
joined-pushed (r ∷ s ∷ runs) (suc i) old new e last is more =
    ap (λ l. r.items ++ l) (joined-pushed (s ∷ runs) i old new e (omega (arith, last)) is more)
    ∙ sym (append_assoc r.items (joined (s ∷ runs)) (e ∷ []))

-- one entry less in a run
pub joined-taken : (runs : List Run) (i at : ℕ) (old new : Run) → i < length runs → old ≡ get_or runs i old → new.items ≡ take at old.items ++ drop (at + 1) old.items
    → joined (slice_set runs i new) ≡ before runs i at ++ from_on runs i (at + 1)
joined-taken runs i at old new below is less =
    joined-set runs i new below
    ∙ ap (λ l. joined (take i runs) ++ (l ++ joined (drop (i + 1) runs))) (less ∙ ap (λ l. take at l ++ drop (at + 1) l) (sym (run_at-read runs i old below is)))
    ∙ sym (regrouped (joined (take i runs)) (take at (run_at runs i)) (drop (at + 1) (run_at runs i)) (joined (drop (i + 1) runs)))
