-- The entries, passes and receipts of a seat, as lists grow.
use Rattle.std.proofs.Common.{◌≡◌, ◌∙◌, ◌⊎◌, inl, inr, ℕ, zero, suc, ◌+◌, ◌-◌, ◌<◌, ◌≤◌, ◌==◌, Bool, true, false, cond, not, min, List, [], ◌∷◌, ◌++◌, length, filter, take, drop, get_or, Option, None, Some, MatchOption, refl, ap, sym, subst, arith, length-append, append-nil, eqb-true, eq-eqb}
use Rattle.std.specs.Prelude.{IfNone, IfSome, IsTrue, slice_get, slice_index, slice_set}
use Rattle.std.specs.Option.{is_some, option_map_or, option_to_list}
use Rattle.std.proofs.lemmas.Bool.{ne_eqb}
use Rattle.std.proofs.lemmas.List.Elements.{filter-append, filter_more}
use Rattle.std.proofs.lemmas.List.{get_or-set_same, get_or-set_other, length-set, take_all}
use Rattle.std.proofs.lemmas.List.Filters.{length-filter_more}
use Rattle.std.proofs.lemmas.Option.{slice_get_within, unwrap_or-slice_get}
use Rattle.ob_model.specs.Run.{Entry}
use Rattle.ob_locked.specs.Opened.{most_seats}
use Rattle.ob_agreement.specs.declared.compared.Mismatch.{Mismatch}
use Rattle.ob_locked.specs.Passed.{Passed}
use Rattle.ob_agreement.specs.Agreement.{entries_of, passes_of, only, first_number, AgreeAt, DifferAt, IsAbsent, IsFirstDifference, IsLeastWithout, IsLesser, IsMismatch, IsOwn, Agrees, IsToldOf}

-- a longer beginning of a list extends a shorter one
split_take : {X : Type 0} (xs : List X) (a b : ℕ) → a ≤ b → (mid : List X) × (take b xs ≡ take a xs ++ mid)
split_take xs zero b less = (take b xs, refl)
split_take [] (suc a) zero less = ([], refl)
split_take [] (suc a) (suc b) less = ([], refl)
split_take (x ∷ xs) (suc a) zero less = absurd (omega (arith, less))
split_take (x ∷ xs) (suc a) (suc b) less = let (mid, e) = split_take xs a b (omega (arith, less)) in (mid, ap (λ l. x ∷ l) e)

-- a list is its beginning, the element after it, and the rest
split_at : {X : Type 0} (xs : List X) (i : ℕ) (x : X) → i < length xs → x ≡ get_or xs i x → xs ≡ take i xs ++ x ∷ drop (suc i) xs
split_at [] i x within is = absurd (omega (arith, within))
split_at (y ∷ ys) zero x within is = ap (λ z. z ∷ ys) (sym is)
split_at (y ∷ ys) (suc i) x within is = ap (λ l. y ∷ l) (split_at ys i x (omega (arith, within)) is)

whole : {X : Type 0} (xs : List X) (i : ℕ) → xs ≡ take i xs ++ drop i xs
whole xs zero = refl
whole [] (suc i) = refl
whole (x ∷ xs) (suc i) = ap (λ l. x ∷ l) (whole xs i)

append-assoc : {X : Type 0} (xs ys zs : List X) → (xs ++ ys) ++ zs ≡ xs ++ (ys ++ zs)
append-assoc [] ys zs = refl
append-assoc (x ∷ xs) ys zs = ap (λ l. x ∷ l) (append-assoc xs ys zs)

none_of : {X : Type 0} (xs : List X) → length xs ≡ 0 → xs ≡ []
none_of [] e = refl
none_of (x ∷ xs) e = absurd (omega (arith, e))

-- an element that is found at a place is the one there
pub place_is : {X : Type 0} (xs : List X) (i : ℕ) (x : X) → slice_get xs i ≡ Some x → x ≡ get_or xs i x
place_is [] i x found = cc
place_is {X} (y ∷ ys) zero x found = ap (λ (o : Option X). option_map_or (λ z. z) o x) (sym found)
place_is (y ∷ ys) (suc i) x found = place_is ys i x found

module _ {X : Type 0} (test : X → Bool) (xs : List X) (i : ℕ) (x : X) (within : i < length xs) (is : x ≡ get_or xs i x) where
  -- what passes of one more, where that passes
  pub one_more : test x ≡ true → filter test (take (i + 1) xs) ≡ filter test (take i xs) ++ x ∷ []
  one_more passes =
      filter_more test xs i x within
      ∙ ap (λ (y : X). filter test (take i xs) ++ cond (test y) (y ∷ []) []) (sym is)
      ∙ ap (λ b. filter test (take i xs) ++ cond b (x ∷ []) []) passes

  -- and where it doesn't
  pub none_more : test x ≡ false → filter test (take (i + 1) xs) ≡ filter test (take i xs)
  none_more fails =
      filter_more test xs i x within
      ∙ ap (λ (y : X). filter test (take i xs) ++ cond (test y) (y ∷ []) []) (sym is)
      ∙ ap (λ b. filter test (take i xs) ++ cond b (x ∷ []) []) fails
      ∙ append-nil (filter test (take i xs))

  -- what passes of all, where that one does
  pub passes_here : test x ≡ true → filter test xs ≡ filter test (take i xs) ++ x ∷ filter test (drop (suc i) xs)
  passes_here passes =
      ap (filter test) (split_at xs i x within is)
      ∙ filter-append test (take i xs) (x ∷ drop (suc i) xs)
      ∙ ap (λ b. filter test (take i xs) ++ cond b (x ∷ filter test (drop (suc i) xs)) (filter test (drop (suc i) xs))) passes

-- no more pass than there are
few : {X : Type 0} (test : X → Bool) (xs : List X) (i : ℕ) → length (filter test (take i xs)) ≤ i
few test xs zero = omega arith
few test [] (suc i) = omega arith
few test (x ∷ xs) (suc i) = go (test x) (few test xs i)
  where
    go : (b : Bool) → length (filter test (take i xs)) ≤ i → length (cond b (x ∷ filter test (take i xs)) (filter test (take i xs))) ≤ suc i
    go true less = omega (arith, less)
    go false less = omega (arith, less)

-- a count of the entries so far is at most how many there are
pub few_so_far : {K : Type 0} (seat : ℕ) (journal : List (Entry K)) (i : ℕ) → length (entries_of seat (take i journal)) ≤ i
few_so_far seat journal i = few (λ e. e.seat == seat) journal i

-- the counts of the entries of each seat, as far as there are counts
abbrev pub Counts : {K : Type 0} → List ℕ → List (Entry K) → Type 0
Counts counts entries = (length counts ≡ most_seats) × ((seat : ℕ) → seat < most_seats → slice_index counts seat ≡ length (entries_of seat entries))

module _ {K : Type 0} (journal : List (Entry K)) (i : ℕ) (e : Entry K) (within : i < length journal) (is : e ≡ get_or journal i e) (counts : List ℕ) where
  grows : (seat : ℕ) → length (entries_of seat (take (i + 1) journal)) ≡ length (entries_of seat (take i journal)) + cond (e.seat == seat) 1 0
  grows seat =
      length-filter_more (λ x. x.seat == seat) journal i e within
      ∙ ap (λ (x : Entry K). length (entries_of seat (take i journal)) + cond (x.seat == seat) 1 0) (sym is)

  -- one more of a seat that is counted
  pub counted : (n : ℕ) → e.seat < most_seats → n ≡ slice_index counts e.seat + 1 → Counts counts (take i journal) → Counts (slice_set counts e.seat n) (take (i + 1) journal)
  counted n low more (long, so_far) = (length-set counts e.seat n ∙ long, λ seat less. go seat less (e.seat == seat) refl)
    where
      go : (seat : ℕ) → seat < most_seats → (b : Bool) → (e.seat == seat) ≡ b → slice_index (slice_set counts e.seat n) seat ≡ length (entries_of seat (take (i + 1) journal))
      go seat less true same =
          let one : e.seat ≡ seat = eqb-true e.seat seat same in
          ap (λ s. slice_index (slice_set counts e.seat n) s) (sym one)
          ∙ get_or-set_same counts e.seat n 0 (omega (arith, low, long))
          ∙ omega (arith, more, so_far e.seat low, ap (λ s. length (entries_of s (take i journal))) one, grows seat, ap {B = ℕ} (λ b. cond b 1 0) same)
      go seat less false other =
          get_or-set_other counts e.seat seat n 0 (λ one. absurd_of (sym (eq-eqb e.seat seat (sym one)) ∙ other))
          ∙ omega (arith, so_far seat less, grows seat, ap {B = ℕ} (λ b. cond b 1 0) other)
        where
          absurd_of : true ≡ false → ⊥
          absurd_of x = cc

  -- one more of a seat that isn't
  pub uncounted : most_seats ≤ e.seat → Counts counts (take i journal) → Counts counts (take (i + 1) journal)
  uncounted high (long, so_far) =
      (long, λ seat less. so_far seat less ∙ omega (arith, grows seat, ap {B = ℕ} (λ b. cond b 1 0) (ne_eqb e.seat seat (λ one. omega (arith, one, high, less)))))

  -- the same, where the count of its seat is written
  pub counted_at : (at n : ℕ) (counts' : List ℕ) → e.seat ≡ at → at < most_seats → n ≡ slice_index counts at + 1 → counts' ≡ slice_set counts at n
      → Counts counts (take i journal) → Counts counts' (take (i + 1) journal)
  counted_at at n counts' same low more set so_far =
      subst (λ cs. Counts cs (take (i + 1) journal)) (ap (λ s. slice_set counts s n) same ∙ sym set)
      (counted n (omega (arith, same, low)) (more ∙ ap (λ s. slice_index counts s + 1) (sym same)) so_far)

  pub uncounted_at : (at : ℕ) (counts' : List ℕ) → e.seat ≡ at → most_seats ≤ at → counts' ≡ counts → Counts counts (take i journal) → Counts counts' (take (i + 1) journal)
  uncounted_at at counts' same high set so_far = subst (λ cs. Counts cs (take (i + 1) journal)) (sym set) (uncounted (omega (arith, same, high)) so_far)

-- Receipts that are gone through, of which these are left, when the last one had this number: they are the entries of the seat up
-- to there, and those that are left; or there are fewer of them.
abbrev pub Follows : {K : Type 0} → ℕ → List (Entry K) → List (Entry K) → ℕ → List (Entry K) → Type 0
Follows seat journal receipts last left =
    (last ≤ length journal)
    × ((receipts ≡ entries_of seat (take last journal) ++ left) ⊎ (length receipts < length (entries_of seat (take last journal)) + length left))

module _ {K : Type 0} (seat : ℕ) (journal receipts : List (Entry K)) where
  pub follows : (last : ℕ) (r : Entry K) (left : List (Entry K)) → last < r.number → slice_get journal (r.number - 1) ≡ Some r → r.seat ≡ seat
      → Follows seat journal receipts last (r ∷ left) → Follows seat journal receipts r.number left
  follows last r left rises stands own (low, so_far) = (omega (arith, within, rises), go so_far (entries_of seat mid.0) refl)
    where
      at : ℕ
      at = r.number - 1

      within : at < length journal
      within = slice_get_within journal at r stands

      mid : (mid : List (Entry K)) × (take at journal ≡ take last journal ++ mid)
      mid = split_take journal last at (omega (arith, rises))

      next : at + 1 ≡ r.number
      next = omega (arith, rises)

      E : List (Entry K)
      E = entries_of seat (take last journal)

      grown : entries_of seat (take r.number journal) ≡ (E ++ entries_of seat mid.0) ++ r ∷ []
      grown =
          ap (λ n. entries_of seat (take n journal)) (sym next)
          ∙ one_more (λ e. e.seat == seat) journal at r within (sym (ap (λ (o : Option (Entry K)). option_map_or (λ x. x) o r) stands) ∙ or_get journal at) (eq-eqb r.seat seat own)
          ∙ ap (λ l. l ++ r ∷ []) (ap (entries_of seat) mid.1 ∙ filter-append (λ e. e.seat == seat) (take last journal) mid.0)
        where
          or_get : (xs : List (Entry K)) (i : ℕ) → option_map_or (λ x. x) (slice_get xs i) r ≡ get_or xs i r
          or_get [] i = refl
          or_get (x ∷ xs) zero = refl
          or_get (x ∷ xs) (suc i) = or_get xs i

      long : length (entries_of seat (take r.number journal)) ≡ length E + length (entries_of seat mid.0) + 1
      long = omega (arith, ap length grown, length-append (E ++ entries_of seat mid.0) (r ∷ []), length-append E (entries_of seat mid.0))

      go : (receipts ≡ E ++ r ∷ left) ⊎ (length receipts < length E + length (r ∷ left)) → (between : List (Entry K)) → entries_of seat mid.0 ≡ between
          → (receipts ≡ entries_of seat (take r.number journal) ++ left) ⊎ (length receipts < length (entries_of seat (take r.number journal)) + length left)
      go (inl same) [] none = inl (same ∙ sym (append-assoc E (r ∷ []) left) ∙ ap (λ l. l ++ left) (sym (grown ∙ ap (λ m. (E ++ m) ++ r ∷ []) none ∙ ap (λ l. l ++ r ∷ []) (append-nil E))))
      go (inl same) (x ∷ more) some = inr (omega (arith, ap length same, length-append E (r ∷ left), long, ap length some))
      go (inr fewer) between is = inr (omega (arith, fewer, long))

  -- where none is left, and there are as many as entries, they are the entries
  pub follows_all : (last : ℕ) → Follows seat journal receipts last [] → length receipts ≡ length (entries_of seat journal) → receipts ≡ entries_of seat journal
  follows_all last (low, so_far) many = go so_far
    where
      E : List (Entry K)
      E = entries_of seat (take last journal)

      D : List (Entry K)
      D = entries_of seat (drop last journal)

      parts : entries_of seat journal ≡ E ++ D
      parts = ap (entries_of seat) (whole journal last) ∙ filter-append (λ e. e.seat == seat) (take last journal) (drop last journal)

      go : (receipts ≡ E ++ []) ⊎ (length receipts < length E + 0) → receipts ≡ entries_of seat journal
      go (inl same) =
          same ∙ ap (λ l. E ++ l) (sym (none_of D (omega (arith, many, ap length same, length-append E [], ap length parts, length-append E D)))) ∙ sym parts
      go (inr fewer) = absurd (omega (arith, fewer, many, ap length parts, length-append E D))

-- the pass that is the only one of a seat is of that seat
pub only_seat : {K : Type 0} (seat : ℕ) (passes : List (Passed K)) (p : Passed K) → only (passes_of seat passes) ≡ Some p → p.seat ≡ seat
only_seat {K} seat passes p is = of (passes_of seat passes) (all passes) is
  where
    All_of : List (Passed K) → Type 0
    All_of [] = Unit {0}
    All_of (q ∷ qs) = (q.seat ≡ seat) × All_of qs

    all : (qs : List (Passed K)) → All_of (passes_of seat qs)
    all [] = tt
    all (q ∷ qs) = go (q.seat == seat) refl (all qs)
      where
        go : (b : Bool) → (q.seat == seat) ≡ b → All_of (passes_of seat qs) → All_of (cond b (q ∷ passes_of seat qs) (passes_of seat qs))
        go true own rest = (eqb-true q.seat seat own, rest)
        go false own rest = rest

    of : (qs : List (Passed K)) → All_of qs → only qs ≡ Some p → p.seat ≡ seat
    of [] h e = cc
    of (q ∷ []) h e = let same : q ≡ p = cc in ap (λ (x : Passed K). x.seat) (sym same) ∙ h.0
    of (q ∷ r ∷ qs) h e = cc

less_or : (a b : ℕ) → (b < a) ⊎ (a ≤ b)
less_or zero b = inr (omega arith)
less_or (suc a) zero = inl (omega arith)
less_or (suc a) (suc b) = lift (less_or a b)
  where
    lift : (b < a) ⊎ (a ≤ b) → (suc b < suc a) ⊎ (suc a ≤ suc b)
    lift (inl h) = inl (omega (arith, h))
    lift (inr h) = inr (omega (arith, h))

-- The least number without a fact, where the fact of one number more fails.
pub least_on : (F F' : ℕ → Type 0) (from other : ℕ) (least least' : Option ℕ) → ((n : ℕ) → (n ≡ other → ⊥) → F n → F' n) → (F' other → ⊥) → ((n : ℕ) → F' n → F n)
    → IsLesser from other least least' → IsLeastWithout F from least → IsLeastWithout F' from least'
least_on F F' from other None least' keeps fails back (low, high) so_far = go (less_or from other)
  where
    go : (other < from) ⊎ (from ≤ other) → IsLeastWithout F' from least'
    go (inl less) = subst (IsLeastWithout F' from) (sym (low less)) (λ n above. keeps n (λ e. omega (arith, above, less, e)) (so_far n above))
    go (inr more) =
        subst (IsLeastWithout F' from) (sym (high more)) (more, (λ n above below. keeps n (λ e. omega (arith, below, e)) (so_far n above)), fails)
least_on F F' from other (Some m) least' keeps fails back (low, high) (above, none, there) = go (less_or from other)
  where
    Here : ℕ → Type 0
    Here k = (from ≤ k) × ((n : ℕ) → from ≤ n → n < k → F' n) × (F' k → ⊥)

    lesser : from ≤ other → (m < other) ⊎ (other ≤ m) → Here (min m other)
    lesser more (inl less) =
        subst Here (omega (arith, less)) ((above, (λ n up down. keeps n (λ e. omega (arith, down, less, e)) (none n up down)), (λ h. there (back m h))))
    lesser more (inr less) =
        subst Here (omega (arith, less)) ((more, (λ n up down. keeps n (λ e. omega (arith, down, e)) (none n up (omega (arith, down, less)))), fails))

    go : (other < from) ⊎ (from ≤ other) → IsLeastWithout F' from least'
    go (inl less) =
        subst (IsLeastWithout F' from) (sym (low less)) (above, (λ n up down. keeps n (λ e. omega (arith, up, less, e)) (none n up down)), (λ h. there (back m h)))
    go (inr more) = subst (IsLeastWithout F' from) (sym (high more)) (lesser more (less_or other m))

-- the least seat without an entry, with one entry more
module _ {K : Type 0} (journal : List (Entry K)) (i : ℕ) (e : Entry K) (within : i < length journal) (is : e ≡ get_or journal i e) where
  ends : {X : Type 0} (xs : List X) (x : X) → xs ++ x ∷ [] ≡ [] → ⊥
  ends [] x none = cc
  ends (y ∷ ys) x none = cc

  front : {X : Type 0} (xs ys : List X) → xs ++ ys ≡ [] → xs ≡ []
  front [] ys none = refl
  front (x ∷ xs) ys none = cc

  pub least_entry : (from : ℕ) (least least' : Option ℕ) → IsLesser from e.seat least least' → IsLeastWithout (λ seat. entries_of seat (take i journal) ≡ []) from least
      → IsLeastWithout (λ seat. entries_of seat (take (i + 1) journal) ≡ []) from least'
  least_entry from least least' lesser so_far =
      least_on (λ seat. entries_of seat (take i journal) ≡ []) (λ seat. entries_of seat (take (i + 1) journal) ≡ []) from e.seat least least'
      (λ n other none. none_more (λ x. x.seat == n) journal i e within is (ne_eqb e.seat n (λ same. other (sym same))) ∙ none)
      (λ none. ends (entries_of e.seat (take i journal)) e (sym (one_more (λ x. x.seat == e.seat) journal i e within is (eq-eqb e.seat e.seat refl)) ∙ none))
      (λ n none. front (entries_of n (take i journal)) _ (sym (filter_more (λ x. x.seat == n) journal i e within) ∙ none))
      lesser so_far

-- a pass that comes after one of the same seat is not the only one
pub second : {K : Type 0} (seat : ℕ) (passes : List (Passed K)) (i : ℕ) (p : Passed K) (found : Option (Passed K)) → i < length passes → p ≡ get_or passes i p → p.seat ≡ seat
    → passes_of seat (take i passes) ≡ option_to_list found → is_some found ≡ true → only (passes_of seat passes) ≡ None
second seat passes i p None within is own so_far there = cc
second {K} seat passes i p (Some q) within is own so_far there =
    ap only (passes_here (λ (x : Passed K). x.seat == seat) passes i p within is (eq-eqb p.seat seat own) ∙ ap (λ l. l ++ p ∷ passes_of seat (drop (suc i) passes)) so_far)

-- what lists have after a common beginning
abbrev tail_of : {X : Type 0} → List X → List X
tail_of [] = []
tail_of (x ∷ l) = l

behind_same : {X : Type 0} (common xs ys : List X) → common ++ xs ≡ common ++ ys → xs ≡ ys
behind_same [] xs ys e = e
behind_same (c ∷ common) xs ys e = behind_same common xs ys (ap tail_of e)

-- lists that are the same have no first difference
pub no_difference : {K : Type 0} (xs ys : List (Entry K)) (x y : ℕ) → IsFirstDifference xs ys x y → xs ≡ ys → ⊥
no_difference {K} xs ys x y d same =
    d.differ (ap (λ (l : List (Entry K)). slice_get l 0) (behind_same d.common d.xs_left d.ys_left (sym d.xs_are ∙ same ∙ d.ys_are)))

-- two lists are the same exactly if they have no first difference
pub decided : {K : Type 0} (es rs : List (Entry K)) (o : Option (ℕ × ℕ)) (b : Bool) → is_some o ≡ not b → IfNone o (rs ≡ es) → IfSome o (λ t. IsFirstDifference es rs (t.0) (t.1))
    → (IsTrue b → rs ≡ es) × (rs ≡ es → IsTrue b)
decided es rs None true is none some = ((λ found. none), (λ same. refl))
decided es rs None false is none some = cc
decided es rs (Some t) true is none some = cc
decided es rs (Some t) false is none some = ((λ found. cc), (λ same. absurd (no_difference es rs t.0 t.1 some (sym same))))

module _ {K : Type 0} (seat : ℕ) (journal receipts : List (Entry K)) (i : ℕ) (rest : List (Entry K)) (so_far : receipts ≡ entries_of seat (take i journal) ++ rest) where
  -- at an entry of the seat
  module _ (e : Entry K) (within : i < length journal) (is : e ≡ get_or journal i e) (own : e.seat ≡ seat) where
    here : entries_of seat journal ≡ entries_of seat (take i journal) ++ e ∷ entries_of seat (drop (suc i) journal)
    here = passes_here (λ x. x.seat == seat) journal i e within is (eq-eqb e.seat seat own)

    pub other_here : (r : Entry K) (left : List (Entry K)) (x y : ℕ) → rest ≡ r ∷ left → (r ≡ e → ⊥) → x ≡ e.number → y ≡ r.number → IsFirstDifference (entries_of seat journal) receipts x y
    other_here r left x y next other number_x number_y = record {
      common = entries_of seat (take i journal);
      xs_left = e ∷ entries_of seat (drop (suc i) journal);
      ys_left = r ∷ left;
      xs_are = here;
      ys_are = so_far ∙ ap (λ l. entries_of seat (take i journal) ++ l) next;
      differ = λ same. other (let one : e ≡ r = cc in sym one);
      number_x = number_x;
      number_y = number_y;
    }

    pub none_here : (x : ℕ) → rest ≡ [] → x ≡ e.number → IsFirstDifference (entries_of seat journal) receipts x 0
    none_here x next number_x = record {
      common = entries_of seat (take i journal);
      xs_left = e ∷ entries_of seat (drop (suc i) journal);
      ys_left = [];
      xs_are = here;
      ys_are = so_far ∙ ap (λ l. entries_of seat (take i journal) ++ l) next;
      differ = λ same. cc;
      number_x = number_x;
      number_y = refl;
    }

    pub same_here : (r : Entry K) (left : List (Entry K)) → rest ≡ r ∷ left → r ≡ e → receipts ≡ entries_of seat (take (i + 1) journal) ++ left
    same_here r left next same =
        so_far ∙ ap (λ l. entries_of seat (take i journal) ++ l) (next ∙ ap (λ x. x ∷ left) same) ∙ sym (append-assoc (entries_of seat (take i journal)) (e ∷ []) left)
        ∙ ap (λ l. l ++ left) (sym (one_more (λ x. x.seat == seat) journal i e within is (eq-eqb e.seat seat own)))

  pub other_seat : (e : Entry K) → i < length journal → e ≡ get_or journal i e → (e.seat ≡ seat → ⊥) → receipts ≡ entries_of seat (take (i + 1) journal) ++ rest
  other_seat e within is other = so_far ∙ ap (λ l. l ++ rest) (sym (none_more (λ x. x.seat == seat) journal i e within is (ne_eqb e.seat seat other)))

  -- after all entries
  pub more_behind : (r : Entry K) (left : List (Entry K)) (y : ℕ) → length journal ≤ i → rest ≡ r ∷ left → y ≡ r.number → IsFirstDifference (entries_of seat journal) receipts 0 y
  more_behind r left y all next number_y = record {
    common = entries_of seat journal;
    xs_left = [];
    ys_left = r ∷ left;
    xs_are = sym (append-nil (entries_of seat journal));
    ys_are = so_far ∙ ap (λ l. entries_of seat l ++ rest) (take_all i journal all) ∙ ap (λ l. entries_of seat journal ++ l) next;
    differ = λ same. cc;
    number_x = refl;
    number_y = number_y;
  }

module _ {K : Type 0} (journal : List (Entry K)) (passes : List (Passed K)) (seat : ℕ) (p : Passed K) (is : only (passes_of seat passes) ≡ Some p) where
  -- a seat's only pass is its own exactly where it has the seat's entries
  pub own_with : p.receipts ≡ entries_of seat journal → IsOwn journal passes seat
  own_with same = is ∙ ap Some (λ i. record { seat = only_seat seat passes p is i; receipts = same i })

  pub own_has : IsOwn journal passes seat → p.receipts ≡ entries_of seat journal
  own_has own = ap (λ (o : Option (Passed K)). option_map_or (λ q. q.receipts) o []) (sym is ∙ own)

module _ {K : Type 0} (journal : List (Entry K)) (passes : List (Passed K)) (seats : ℕ) where
  pub mismatch_at : (m : Mismatch) (seat : ℕ) → m.seat ≡ seat → seat < seats → (IsOwn journal passes seat → ⊥) → ((n : ℕ) → n < seat → IsOwn journal passes n) → IsToldOf journal passes m
      → IsMismatch journal passes seats m
  mismatch_at m seat same within other before told = record {
    differs = λ agree. other (subst (IsOwn journal passes) same (agree.0 (omega (arith, within, same))));
    least = λ n less. ((λ _. before n (omega (arith, less, same))), (λ high. absurd (omega (arith, high, less, same, within))));
    told = told;
  }

  pub mismatch_beyond : (m : Mismatch) (least : ℕ) → m.seat ≡ least → (seats ≤ least) × ((n : ℕ) → seats ≤ n → n < least → IsAbsent journal passes n) × (IsAbsent journal passes least → ⊥)
      → ((n : ℕ) → n < seats → IsOwn journal passes n) → IsToldOf journal passes m → IsMismatch journal passes seats m
  mismatch_beyond m least same (high, none, there) before told = record {
    differs = λ agree. there (subst (IsAbsent journal passes) same (agree.1 (omega (arith, high, same))));
    least = λ n less. ((λ within. before n within), (λ up. none n up (omega (arith, less, same))));
    told = told;
  }
