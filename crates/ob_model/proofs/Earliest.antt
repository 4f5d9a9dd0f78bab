-- The row of least stamp among some, and what is found in a directory.
use Rattle.std.proofs.Common.{◌≡◌, ℕ, zero, suc, ◌≤◌, Bool, true, false, nat_le, cond, List, [], ◌∷◌, filter, All, Contains, Option, None, Some, MatchOption, refl, subst, arith, leb-true, leb-false}
use Rattle.std.proofs.lemmas.List.Elements.{All-nil, All-cons, All-weaker}
use Rattle.ob_model.specs.declared.state.Row.{Row}
use Rattle.ob_model.specs.Paths.{earlier, earliest, is_match, found}
use Rattle.ob_model.specs.State.{State}
use Rattle.ob_model.specs.Laws.{IsFoundRow}
use Rattle.ob_model.proofs.Places.{unmatched_with_case}

-- one of the rows that a test keeps, and its stamp is the least of theirs
pub record IsEarliest (keeps : Row → Bool) (rows : List Row) (r : Row) : Type 0 where
  pub stands : Contains rows r
  pub matches : keeps r ≡ true
  pub least : All (λ q. keeps q ≡ true → r.stamp ≤ q.stamp) rows

Contains-head : (r : Row) (rows : List Row) → Contains (r ∷ rows) r
Contains-head r rows = (zero, omega arith, refl)

Contains-tail : (x r : Row) (rows : List Row) → Contains rows r → Contains (x ∷ rows) r
Contains-tail x r rows (k, within, at) = (suc k, omega arith, at)

-- a further row, which the test leaves out
earliest_skips : (keeps : Row → Bool) (x : Row) (rows : List Row) (o : Option Row) → keeps x ≡ false
    → MatchOption o (All (λ q. keeps q ≡ false) rows) (IsEarliest keeps rows) → MatchOption o (All (λ q. keeps q ≡ false) (x ∷ rows)) (IsEarliest keeps (x ∷ rows))
earliest_skips keeps x rows None left_out h = All-cons (λ q. keeps q ≡ false) x rows left_out h
earliest_skips keeps x rows (Some r) left_out h = record {
  stands = Contains-tail x r rows h.stands;
  matches = h.matches;
  least = All-cons (λ q. keeps q ≡ true → r.stamp ≤ q.stamp) x rows (λ kept. cc) h.least;
}

-- a further row, which the test keeps
earliest_takes : (keeps : Row → Bool) (x : Row) (rows : List Row) (o : Option Row) → keeps x ≡ true
    → MatchOption o (All (λ q. keeps q ≡ false) rows) (IsEarliest keeps rows) → IsEarliest keeps (x ∷ rows) (earlier x o)
earliest_takes keeps x rows None kept h = record {
  stands = Contains-head x rows;
  matches = kept;
  least = All-cons (λ q. keeps q ≡ true → x.stamp ≤ q.stamp) x rows (λ k. omega arith)
      (All-weaker (λ q. keeps q ≡ false) (λ q. keeps q ≡ true → x.stamp ≤ q.stamp) (λ q left_out k. cc) rows h);
}
earliest_takes keeps x rows (Some r) kept h = go (nat_le x.stamp r.stamp) refl
  where
    go : (b : Bool) → nat_le x.stamp r.stamp ≡ b → IsEarliest keeps (x ∷ rows) (cond b x r)
    go true before = record {
      stands = Contains-head x rows;
      matches = kept;
      least = All-cons (λ q. keeps q ≡ true → x.stamp ≤ q.stamp) x rows (λ k. omega arith)
          (All-weaker (λ q. keeps q ≡ true → r.stamp ≤ q.stamp) (λ q. keeps q ≡ true → x.stamp ≤ q.stamp)
          (λ q most k. omega (arith, most k, leb-true x.stamp r.stamp before)) rows h.least);
    }
    go false before = record {
      stands = Contains-tail x r rows h.stands;
      matches = h.matches;
      least = All-cons (λ q. keeps q ≡ true → r.stamp ≤ q.stamp) x rows (λ k. omega (arith, leb-false x.stamp r.stamp before)) h.least;
    }

-- what is earliest among the rows that a test keeps
pub earliest-filter : (keeps : Row → Bool) (rows : List Row) → MatchOption (earliest (filter keeps rows)) (All (λ q. keeps q ≡ false) rows) (IsEarliest keeps rows)
earliest-filter keeps [] = All-nil (λ q. keeps q ≡ false)
earliest-filter keeps (x ∷ rows) = go (keeps x) refl (earliest-filter keeps rows)
  where
    go : (b : Bool) → keeps x ≡ b → MatchOption (earliest (filter keeps rows)) (All (λ q. keeps q ≡ false) rows) (IsEarliest keeps rows)
        → MatchOption (earliest (cond b (x ∷ filter keeps rows) (filter keeps rows))) (All (λ q. keeps q ≡ false) (x ∷ rows)) (IsEarliest keeps (x ∷ rows))
    go true kept h = earliest_takes keeps x rows (earliest (filter keeps rows)) kept h
    go false left_out h = earliest_skips keeps x rows (earliest (filter keeps rows)) left_out h

module _ {K T F I : Type 0} where
  -- found is a matching row of least stamp
  pub found_least : (s : State K T F I) (d : ℕ) (c : List ℕ) (fold : Bool)
      → MatchOption (found s d c fold) (All (λ q. is_match d c fold q ≡ false) s.rows) (IsFoundRow s d c fold)
  found_least s d c fold = go (found s d c fold) (earliest-filter (is_match d c fold) s.rows)
    where
      go : (o : Option Row) → MatchOption o (All (λ q. is_match d c fold q ≡ false) s.rows) (IsEarliest (is_match d c fold) s.rows)
          → MatchOption o (All (λ q. is_match d c fold q ≡ false) s.rows) (IsFoundRow s d c fold)
      go None h = h
      go (Some r) h = record { stands = h.stands; matches = h.matches; least = h.least }

  -- where nothing is found, with or without case, no row matches with case
  pub unmatched : (s : State K T F I) (d : ℕ) (c : List ℕ) (fold : Bool) → found s d c fold ≡ None → All (λ r. is_match d c false r ≡ false) s.rows
  unmatched s d c fold none =
      All-weaker (λ r. is_match d c fold r ≡ false) (λ r. is_match d c false r ≡ false) (λ r other. unmatched_with_case fold d c r other) s.rows
      (subst (λ (o : Option Row). MatchOption o (All (λ r. is_match d c fold r ≡ false) s.rows) (IsFoundRow s d c fold)) none (found_least s d c fold))
