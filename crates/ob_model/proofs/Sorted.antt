-- What a sort by a number keeps.
use Rattle.std.proofs.Common.{◌≡◌, ◌∙◌, ℕ, zero, suc, ◌+◌, ◌≤◌, ◌<◌, Bool, true, false, cond, nat_le, List, [], ◌∷◌, ◌++◌, length, filter, All, refl, ap, sym, arith, leb-true, leb-false, le-leb}
use Rattle.std.proofs.lemmas.List.Elements.{All-nil, All-cons, All-head, All-tail, All-filter, All-weaker}
use Rattle.std.proofs.lemmas.List.Kept.{AllPairs-cons}
use Rattle.std.specs.List.{AllPairs}
use Rattle.ob_model.specs.Sorted.{insert_by, sorted_by}

pub pairs_head : {X : Type 0} (R : X → X → Type 0) (x : X) (xs : List X) → AllPairs R (x ∷ xs) → All (R x) xs
pairs_head R x xs pairs k d below = pairs zero (suc k) d (omega arith) (omega (arith, below))

pub pairs_tail : {X : Type 0} (R : X → X → Type 0) (x : X) (xs : List X) → AllPairs R (x ∷ xs) → AllPairs R xs
pairs_tail R x xs pairs i j d before below = pairs (suc i) (suc j) d (omega (arith, before)) (omega (arith, below))

pub pairs_none : {X : Type 0} (R : X → X → Type 0) → AllPairs R []
pairs_none R i j d before below = absurd (omega (arith, below))

pub above-leb : (m n : ℕ) → m < n → nat_le n m ≡ false
above-leb m n above = go (nat_le n m) refl
  where
    go : (t : Bool) → nat_le n m ≡ t → t ≡ false
    go true e = absurd (omega (arith, above, leb-true n m e))
    go false e = refl

module _ {X : Type 0} (key : X → ℕ) where
  -- the element comes before the other, or has its number
  abbrev pub ComesFirst : X → X → Type 0
  ComesFirst r q = (key r) ≤ (key q)

  -- each element comes before those behind it, said one element at a time
  abbrev pub Rises : List X → Type 0
  Rises [] = Unit {0}
  Rises (r ∷ rows) = All (ComesFirst r) rows × Rises rows

  -- ---- one element more

  -- what holds of all elements and of a further one holds of all with it
  All-insert_by : (P : X → Type 0) (r : X) (rows : List X) → P r → All P rows → All P (insert_by key r rows)
  All-insert_by P r [] here all = All-cons P r [] here all
  All-insert_by P r (q ∷ rows) here all = go (nat_le (key r) (key q)) (All-insert_by P r rows here (All-tail P q rows all))
    where
      go : (t : Bool) → All P (insert_by key r rows) → All P (cond t (r ∷ q ∷ rows) (q ∷ insert_by key r rows))
      go true more = All-cons P r (q ∷ rows) here all
      go false more = All-cons P q (insert_by key r rows) (All-head P q rows all) more

  -- and the other way round
  inserted_holds : (P : X → Type 0) (r : X) (rows : List X) → All P (insert_by key r rows) → P r × All P rows
  inserted_holds P r [] all = (All-head P r [] all, All-nil P)
  inserted_holds P r (q ∷ rows) all = go (nat_le (key r) (key q)) (inserted_holds P r rows) all
    where
      go : (t : Bool) → (All P (insert_by key r rows) → P r × All P rows) → All P (cond t (r ∷ q ∷ rows) (q ∷ insert_by key r rows)) → P r × All P (q ∷ rows)
      go true more h = (All-head P r (q ∷ rows) h, All-tail P r (q ∷ rows) h)
      go false more h =
          let behind = more (All-tail P q (insert_by key r rows) h) in
          (behind.0, All-cons P q rows (All-head P q (insert_by key r rows) h) behind.1)

  -- elements that rise still do
  insert_by-Rises : (r : X) (rows : List X) → Rises rows → Rises (insert_by key r rows)
  insert_by-Rises r [] rises = (All-nil (ComesFirst r), tt)
  insert_by-Rises r (q ∷ rows) rises = go (nat_le (key r) (key q)) refl (insert_by-Rises r rows rises.1)
    where
      go : (t : Bool) → nat_le (key r) (key q) ≡ t → Rises (insert_by key r rows) → Rises (cond t (r ∷ q ∷ rows) (q ∷ insert_by key r rows))
      go true before more =
          let first : (key r) ≤ (key q) = leb-true (key r) (key q) before in
          (All-cons (ComesFirst r) q rows first (All-weaker (ComesFirst q) (ComesFirst r) (λ x behind. omega (arith, first, behind)) rows rises.0), rises)
      go false behind more =
          let first : (key q) < (key r) = leb-false (key r) (key q) behind in
          (All-insert_by (ComesFirst q) r rows (omega (arith, first)) rises.0, more)

  -- an element that comes before all goes to the front, and one that comes behind all to the end
  insert_by-first : (r : X) (rows : List X) → All (ComesFirst r) rows → insert_by key r rows ≡ r ∷ rows
  insert_by-first r [] first = refl
  insert_by-first r (q ∷ rows) first = ap (λ t. cond t (r ∷ q ∷ rows) (q ∷ insert_by key r rows)) (le-leb (key r) (key q) (All-head (ComesFirst r) q rows first))

  insert_by-last : (r : X) (rows : List X) → All (λ q. (key q) < (key r)) rows → insert_by key r rows ≡ rows ++ r ∷ []
  insert_by-last r [] last = refl
  insert_by-last r (q ∷ rows) last =
      ap (λ t. cond t (r ∷ q ∷ rows) (q ∷ insert_by key r rows)) (above-leb (key q) (key r) (All-head (λ x. (key x) < (key r)) q rows last))
      ∙ ap (λ xs. q ∷ xs) (insert_by-last r rows (All-tail (λ x. (key x) < (key r)) q rows last))

  -- an element that comes before the last one stays before it
  insert_by-before : (x r : X) (rows : List X) → (key x) < (key r) → insert_by key x (rows ++ r ∷ []) ≡ insert_by key x rows ++ r ∷ []
  insert_by-before x r [] before = insert_by-first x (r ∷ []) (All-cons (ComesFirst x) r [] (omega (arith, before)) (All-nil (ComesFirst x)))
  insert_by-before x r (q ∷ rows) before = go (nat_le (key x) (key q)) (insert_by-before x r rows before)
    where
      go : (t : Bool) → insert_by key x (rows ++ r ∷ []) ≡ insert_by key x rows ++ r ∷ []
          → cond t (x ∷ q ∷ (rows ++ r ∷ [])) (q ∷ insert_by key x (rows ++ r ∷ [])) ≡ cond t (x ∷ q ∷ rows) (q ∷ insert_by key x rows) ++ r ∷ []
      go true more = refl
      go false more = ap (λ xs. q ∷ xs) more

  -- a test keeps of elements with a further one what it keeps of the rows, with that one where it keeps it
  filter-insert_by : (test : X → Bool) (r : X) (rows : List X) → Rises rows
      → filter test (insert_by key r rows) ≡ cond (test r) (insert_by key r (filter test rows)) (filter test rows)
  filter-insert_by test r [] rises = refl
  filter-insert_by test r (q ∷ rows) rises = go (nat_le (key r) (key q)) (test r) (test q) refl refl refl (filter-insert_by test r rows rises.1)
    where
      kept_first : nat_le (key r) (key q) ≡ true → insert_by key r (filter test (q ∷ rows)) ≡ r ∷ filter test (q ∷ rows)
      kept_first before =
          let first : (key r) ≤ (key q) = leb-true (key r) (key q) before in
          insert_by-first r (filter test (q ∷ rows)) (All-filter test (ComesFirst r) (q ∷ rows)
          (All-cons (ComesFirst r) q rows first (All-weaker (ComesFirst q) (ComesFirst r) (λ x behind. omega (arith, first, behind)) rows rises.0)))

      go : (before here there : Bool) → nat_le (key r) (key q) ≡ before → test r ≡ here → test q ≡ there
          → filter test (insert_by key r rows) ≡ cond here (insert_by key r (filter test rows)) (filter test rows)
          → filter test (cond before (r ∷ q ∷ rows) (q ∷ insert_by key r rows)) ≡ cond here (insert_by key r (filter test (q ∷ rows))) (filter test (q ∷ rows))
      go true true there e h f more = rw h (sym (kept_first e))
      go true false there e h f more = rw h refl
      go false true true e h f more = rw f (rw e (ap (λ xs. q ∷ xs) more))
      go false true false e h f more = rw f more
      go false false true e h f more = rw f (ap (λ xs. q ∷ xs) more)
      go false false false e h f more = rw f more

  -- ---- the sort

  -- what is sorted rises
  pub sorted_by-Rises : (rows : List X) → Rises (sorted_by key rows)
  sorted_by-Rises [] = tt
  sorted_by-Rises (r ∷ rows) = insert_by-Rises r (sorted_by key rows) (sorted_by-Rises rows)

  -- what rises stays as it is
  pub sorted_by-same : (rows : List X) → Rises rows → sorted_by key rows ≡ rows
  sorted_by-same [] rises = refl
  sorted_by-same (r ∷ rows) rises = ap (insert_by key r) (sorted_by-same rows rises.1) ∙ insert_by-first r rows rises.0

  -- to sort and then keep is to keep and then sort
  pub filter-sorted_by : (test : X → Bool) (rows : List X) → filter test (sorted_by key rows) ≡ sorted_by key (filter test rows)
  filter-sorted_by test [] = refl
  filter-sorted_by test (r ∷ rows) = filter-insert_by test r (sorted_by key rows) (sorted_by-Rises rows) ∙ go (test r) (filter-sorted_by test rows)
    where
      go : (t : Bool) → filter test (sorted_by key rows) ≡ sorted_by key (filter test rows)
          → cond t (insert_by key r (filter test (sorted_by key rows))) (filter test (sorted_by key rows)) ≡ sorted_by key (cond t (r ∷ filter test rows) (filter test rows))
      go true more = ap (insert_by key r) more
      go false more = more

  -- what holds of the sorted elements holds of the rows, and the other way round
  pub All-sorted_by : (P : X → Type 0) (rows : List X) → All P rows → All P (sorted_by key rows)
  All-sorted_by P [] all = all
  All-sorted_by P (r ∷ rows) all = All-insert_by P r (sorted_by key rows) (All-head P r rows all) (All-sorted_by P rows (All-tail P r rows all))

  pub sorted_by-All : (P : X → Type 0) (rows : List X) → All P (sorted_by key rows) → All P rows
  sorted_by-All P [] all = all
  sorted_by-All P (r ∷ rows) all =
      let parts = inserted_holds P r (sorted_by key rows) all in
      All-cons P r rows parts.0 (sorted_by-All P rows parts.1)

  -- an element that comes behind all others is the last, wherever it stood
  pub sorted_by-last : (r : X) (xs ys : List X) → All (λ q. (key q) < (key r)) xs → All (λ q. (key q) < (key r)) ys
      → sorted_by key (xs ++ r ∷ ys) ≡ sorted_by key (xs ++ ys) ++ r ∷ []
  sorted_by-last r [] ys before behind = insert_by-last r (sorted_by key ys) (All-sorted_by (λ q. (key q) < (key r)) ys behind)
  sorted_by-last r (x ∷ xs) ys before behind =
      ap (insert_by key x) (sorted_by-last r xs ys (All-tail (λ q. (key q) < (key r)) x xs before) behind)
      ∙ insert_by-before x r (sorted_by key (xs ++ ys)) (All-head (λ q. (key q) < (key r)) x xs before)

  -- a sort keeps how many there are
  insert_by-length : (r : X) (xs : List X) → length (insert_by key r xs) ≡ length xs + 1
  insert_by-length r [] = refl
  insert_by-length r (q ∷ xs) = go (nat_le (key r) (key q)) (insert_by-length r xs)
    where
      go : (t : Bool) → length (insert_by key r xs) ≡ length xs + 1 → length (cond t (r ∷ q ∷ xs) (q ∷ insert_by key r xs)) ≡ length (q ∷ xs) + 1
      go true more = omega arith
      go false more = omega (arith, more)

  pub sorted_by-length : (xs : List X) → length (sorted_by key xs) ≡ length xs
  sorted_by-length [] = refl
  sorted_by-length (r ∷ xs) = let more : length (sorted_by key xs) ≡ length xs = sorted_by-length xs in omega (arith, more, insert_by-length r (sorted_by key xs))

  module _ (R : X → X → Type 0) (turned : (a b : X) → R a b → R b a) where
    -- one element more, wherever it stands
    pairs-insert_by : (r : X) (rows : List X) → All (R r) rows → AllPairs R rows → AllPairs R (insert_by key r rows)
    pairs-insert_by r [] all pairs = AllPairs-cons R r [] all pairs
    pairs-insert_by r (q ∷ rows) all pairs =
        go (nat_le (key r) (key q)) (pairs-insert_by r rows (All-tail (R r) q rows all) (pairs_tail R q rows pairs))
      where
        go : (t : Bool) → AllPairs R (insert_by key r rows) → AllPairs R (cond t (r ∷ q ∷ rows) (q ∷ insert_by key r rows))
        go true more = AllPairs-cons R r (q ∷ rows) all pairs
        go false more =
            AllPairs-cons R q (insert_by key r rows) (All-insert_by (R q) r rows (turned r q (All-head (R r) q rows all)) (pairs_head R q rows pairs)) more

    inserted_pairs : (r : X) (rows : List X) → AllPairs R (insert_by key r rows) → All (R r) rows × AllPairs R rows
    inserted_pairs r [] pairs = (All-nil (R r), pairs_none R)
    inserted_pairs r (q ∷ rows) pairs = go (nat_le (key r) (key q)) pairs (inserted_pairs r rows)
      where
        go : (t : Bool) → AllPairs R (cond t (r ∷ q ∷ rows) (q ∷ insert_by key r rows)) → (AllPairs R (insert_by key r rows) → All (R r) rows × AllPairs R rows)
            → All (R r) (q ∷ rows) × AllPairs R (q ∷ rows)
        go true pairs more = (pairs_head R r (q ∷ rows) pairs, pairs_tail R r (q ∷ rows) pairs)
        go false pairs more =
            let parts = more (pairs_tail R q (insert_by key r rows) pairs) in
            let first = inserted_holds (R q) r rows (pairs_head R q (insert_by key r rows) pairs) in
            (All-cons (R r) q rows (turned q r first.0) parts.0, AllPairs-cons R q rows first.1 parts.1)

    pub pairs-sorted_by : (rows : List X) → AllPairs R rows → AllPairs R (sorted_by key rows)
    pairs-sorted_by [] pairs = pairs
    pairs-sorted_by (r ∷ rows) pairs =
        pairs-insert_by r (sorted_by key rows) (All-sorted_by (R r) rows (pairs_head R r rows pairs)) (pairs-sorted_by rows (pairs_tail R r rows pairs))

    pub sorted_by-pairs : (rows : List X) → AllPairs R (sorted_by key rows) → AllPairs R rows
    sorted_by-pairs [] pairs = pairs
    sorted_by-pairs (r ∷ rows) pairs =
        let parts = inserted_pairs r (sorted_by key rows) pairs in
        AllPairs-cons R r rows (sorted_by-All (R r) rows parts.0) (sorted_by-pairs rows parts.1)

    -- and in the middle of them
    pub pairs-middle : (r : X) (xs ys : List X) → All (R r) (xs ++ ys) → AllPairs R (xs ++ ys) → AllPairs R (xs ++ r ∷ ys)
    pairs-middle r [] ys all pairs = AllPairs-cons R r ys all pairs
    pairs-middle r (x ∷ xs) ys all pairs =
        AllPairs-cons R x (xs ++ r ∷ ys)
        (All-middle (R x) r xs ys (turned r x (All-head (R r) x (xs ++ ys) all)) (pairs_head R x (xs ++ ys) pairs))
        (pairs-middle r xs ys (All-tail (R r) x (xs ++ ys) all) (pairs_tail R x (xs ++ ys) pairs))
      where
        All-middle : (P : X → Type 0) (r : X) (xs ys : List X) → P r → All P (xs ++ ys) → All P (xs ++ r ∷ ys)
        All-middle P r [] ys here all = All-cons P r ys here all
        All-middle P r (x ∷ xs) ys here all = All-cons P x (xs ++ r ∷ ys) (All-head P x (xs ++ ys) all) (All-middle P r xs ys here (All-tail P x (xs ++ ys) all))
