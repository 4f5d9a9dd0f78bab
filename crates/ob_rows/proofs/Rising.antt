-- Rows by strictly rising stamps: the row under a stamp, the rows without it, and that equal finds mean equal rows.
use Rattle.std.proofs.Common.{◌≡◌, ◌∙◌, ◌⊎◌, ℕ, ◌<◌, ◌≤◌, Bool, true, false, cond, not, ◌==◌, List, [], ◌∷◌, filter, find, All, Option, None, Some, refl, ap, sym, arith, inl, inr, eq-eqb, get_or, length, take}
use Rattle.std.proofs.lemmas.Bool.{cases_lt, eqb-true, ne_eqb}
use Rattle.std.proofs.lemmas.List.{get_or-take, get_or_default, length-take}
use Rattle.std.proofs.lemmas.List.Elements.{All-nil, All-cons, All-head, All-tail, All-weaker}
use Rattle.ob_model.proofs.Finds.{filter_all}
use Rattle.ob_model.proofs.Sorted.{pairs_head, pairs_tail}
use Rattle.ob_model.specs.declared.state.Row.{Row}
use Rattle.ob_rows.specs.Rows.{AreByStamp}

-- the row has the stamp, and has another
abbrev pub has_stamp : ℕ → Row → Bool
has_stamp stamp r = r.stamp == stamp

abbrev pub has_other : ℕ → Row → Bool
has_other stamp r = not (r.stamp == stamp)

-- the row's stamp is less than the other's
abbrev pub Before : Row → Row → Type 0
Before a b = a.stamp < b.stamp

-- ---- a stamp that no row has

pub find-none : (stamp : ℕ) (rows : List Row) → All (λ r. has_stamp stamp r ≡ false) rows → find (has_stamp stamp) rows ≡ None
find-none stamp [] each = refl
find-none stamp (r ∷ rows) each =
    ap (λ b. cond b (Some r) (find (has_stamp stamp) rows)) (All-head (λ x. has_stamp stamp x ≡ false) r rows each)
    ∙ find-none stamp rows (All-tail (λ x. has_stamp stamp x ≡ false) r rows each)

pub stay-none : (stamp : ℕ) (rows : List Row) → All (λ r. has_stamp stamp r ≡ false) rows → filter (has_other stamp) rows ≡ rows
stay-none stamp rows each =
    filter_all (has_other stamp) rows (All-weaker (λ r. has_stamp stamp r ≡ false) (λ r. has_other stamp r ≡ true) (λ r is. ap not is) rows each)

pub none-below : (stamp : ℕ) (rows : List Row) → All (λ r. r.stamp < stamp) rows → All (λ r. has_stamp stamp r ≡ false) rows
none-below stamp rows each =
    All-weaker (λ r. r.stamp < stamp) (λ r. has_stamp stamp r ≡ false) (λ r low. ne_eqb r.stamp stamp (λ same. omega (arith, low, same))) rows each

pub none-behind : (stamp : ℕ) (r : Row) (rows : List Row) → stamp ≤ r.stamp → All (Before r) rows → All (λ x. has_stamp stamp x ≡ false) rows
none-behind stamp r rows from behind =
    All-weaker (Before r) (λ x. has_stamp stamp x ≡ false) (λ x later. ne_eqb x.stamp stamp (λ same. omega (arith, from, later, same))) rows behind

-- so all of what follows the row of a stamp stays when the stamp is taken away
pub others_stay : (stamp : ℕ) (r : Row) (rows : List Row) → AreByStamp (r ∷ rows) → has_stamp stamp r ≡ true → filter (has_other stamp) rows ≡ rows
others_stay stamp r rows rising here =
    stay-none stamp rows (none-behind stamp r rows (omega (arith, eqb-true r.stamp stamp here)) (pairs_head Before r rows rising))

-- ---- each is found by its own stamp

pub each_is_found : (rows : List Row) → AreByStamp rows → All (λ r. find (has_stamp r.stamp) rows ≡ Some r) rows
each_is_found [] rising = All-nil (λ r. find (has_stamp r.stamp) [] ≡ Some r)
each_is_found (r ∷ rows) rising =
    All-cons (λ x. find (has_stamp x.stamp) (r ∷ rows) ≡ Some x) r rows
    (ap (λ b. cond b (Some r) (find (has_stamp r.stamp) rows)) (eq-eqb r.stamp r.stamp refl))
    (λ k d below. behind _ (pairs_head Before r rows rising k d below) (each_is_found rows (pairs_tail Before r rows rising) k d below))
  where
    behind : (x : Row) → r.stamp < x.stamp → find (has_stamp x.stamp) rows ≡ Some x → find (has_stamp x.stamp) (r ∷ rows) ≡ Some x
    behind x before there =
        ap (λ b. cond b (Some r) (find (has_stamp x.stamp) rows)) (ne_eqb r.stamp x.stamp (λ same. omega (arith, before, same))) ∙ there

-- ---- what is found where a stamp went

pub found_without : (stamp q : ℕ) (rows : List Row) → find (has_stamp q) (filter (has_other stamp) rows) ≡ cond (stamp == q) None (find (has_stamp q) rows)
found_without stamp q [] = none (stamp == q) None refl
  where
    none : (b : Bool) (o : Option Row) → o ≡ None → o ≡ cond b None o
    none true o is = is
    none false o is = refl
found_without stamp q (r ∷ rows) = go (has_stamp stamp r) (has_stamp q r) (stamp == q) refl refl refl (found_without stamp q rows)
  where
    both : has_stamp stamp r ≡ true → has_stamp q r ≡ (stamp == q)
    both here = ap (λ n. n == q) (eqb-true r.stamp stamp here)

    apart : has_stamp stamp r ≡ false → has_stamp q r ≡ true → (stamp == q) ≡ true → ⊥
    apart other here same =
        let is : has_stamp stamp r ≡ true = eq-eqb r.stamp stamp (eqb-true r.stamp q here ∙ sym (eqb-true stamp q same)) in
        cc

    go : (a b c : Bool) → has_stamp stamp r ≡ a → has_stamp q r ≡ b → (stamp == q) ≡ c
        → find (has_stamp q) (filter (has_other stamp) rows) ≡ cond c None (find (has_stamp q) rows)
        → find (has_stamp q) (cond (not a) (r ∷ filter (has_other stamp) rows) (filter (has_other stamp) rows)) ≡ cond c None (cond b (Some r) (find (has_stamp q) rows))
    go true true true ea eb ec more = more
    go true true false ea eb ec more = let same = both ea in cc
    go true false true ea eb ec more = more
    go true false false ea eb ec more = more
    go false true true ea eb ec more = absurd (apart ea eb ec)
    go false true false ea eb ec more = ap (λ b. cond b (Some r) (find (has_stamp q) (filter (has_other stamp) rows))) eb
    go false false true ea eb ec more = ap (λ b. cond b (Some r) (find (has_stamp q) (filter (has_other stamp) rows))) eb ∙ more
    go false false false ea eb ec more = ap (λ b. cond b (Some r) (find (has_stamp q) (filter (has_other stamp) rows))) eb ∙ more

-- ---- rows are the same where the same is found

head_found : (r : Row) (rows : List Row) → find (has_stamp r.stamp) (r ∷ rows) ≡ Some r
head_found r rows = ap (λ b. cond b (Some r) (find (has_stamp r.stamp) rows)) (eq-eqb r.stamp r.stamp refl)

not_before : (stamp : ℕ) (r : Row) (rows : List Row) → stamp < r.stamp → AreByStamp (r ∷ rows) → find (has_stamp stamp) (r ∷ rows) ≡ None
not_before stamp r rows less rising =
    find-none stamp (r ∷ rows) (All-cons (λ x. has_stamp stamp x ≡ false) r rows (ne_eqb r.stamp stamp (λ same. omega (arith, less, same)))
    (none-behind stamp r rows (omega (arith, less)) (pairs_head Before r rows rising)))

none_some : {x : Row} → None ≡ Some x → ⊥
none_some e = cc

some_same : {x y : Row} → Some x ≡ Some y → x ≡ y
some_same e = cc

pub same_where_found : (rs ss : List Row) → AreByStamp rs → AreByStamp ss → ((q : ℕ) → find (has_stamp q) rs ≡ find (has_stamp q) ss) → rs ≡ ss
same_where_found [] [] r_rise s_rise same = refl
same_where_found [] (s ∷ ss) r_rise s_rise same = absurd (none_some (same s.stamp ∙ head_found s ss))
same_where_found (r ∷ rs) [] r_rise s_rise same = absurd (none_some (sym (same r.stamp) ∙ head_found r rs))
same_where_found (r ∷ rs) (s ∷ ss) r_rise s_rise same =
    go (cases_lt r.stamp s.stamp) (cases_lt s.stamp r.stamp) (same_where_found rs ss (pairs_tail Before r rs r_rise) (pairs_tail Before s ss s_rise))
  where
    head : r.stamp ≡ s.stamp → r ≡ s
    head is = some_same (sym (head_found r rs) ∙ same r.stamp ∙ ap (λ q. find (has_stamp q) (s ∷ ss)) is ∙ head_found s ss)

    tail : r.stamp ≡ s.stamp → (q : ℕ) → find (has_stamp q) rs ≡ find (has_stamp q) ss
    tail is q = here (has_stamp q r) refl
      where
        here : (b : Bool) → has_stamp q r ≡ b → find (has_stamp q) rs ≡ find (has_stamp q) ss
        here true at =
            let stamp : r.stamp ≡ q = eqb-true r.stamp q at in
            find-none q rs (none-behind q r rs (omega (arith, stamp)) (pairs_head Before r rs r_rise))
            ∙ sym (find-none q ss (none-behind q s ss (omega (arith, stamp, is)) (pairs_head Before s ss s_rise)))
        here false other =
            sym (ap (λ b. cond b (Some r) (find (has_stamp q) rs)) other) ∙ same q
            ∙ ap (λ b. cond b (Some s) (find (has_stamp q) ss)) (ap (λ n. n == q) (sym is) ∙ other)

    go : (r.stamp < s.stamp) ⊎ (s.stamp ≤ r.stamp) → (s.stamp < r.stamp) ⊎ (r.stamp ≤ s.stamp)
        → (((q : ℕ) → find (has_stamp q) rs ≡ find (has_stamp q) ss) → rs ≡ ss) → r ∷ rs ≡ s ∷ ss
    go (inl less) other more = absurd (none_some (sym (not_before r.stamp s ss less s_rise) ∙ sym (same r.stamp) ∙ head_found r rs))
    go (inr above) (inl less) more = absurd (none_some (sym (not_before s.stamp r rs less r_rise) ∙ same s.stamp ∙ head_found s ss))
    go (inr above) (inr below) more =
        let is : r.stamp ≡ s.stamp = omega (arith, above, below) in
        ap (λ (x : Row). x ∷ rs) (head is) ∙ ap (λ l. s ∷ l) (more (tail is))

-- ---- what is before a row

pub below_before : (rows : List Row) (i : ℕ) (d : Row) → i < length rows → AreByStamp rows → All (λ r. r.stamp < (get_or rows i d).stamp) (take i rows)
below_before rows i d within rising k e below =
    let less : k < i = omega (arith, below, length-take i rows) in
    let same : get_or (take i rows) k e ≡ get_or rows k e = get_or-take i rows k e less in
    let other : get_or rows i e ≡ get_or rows i d = get_or_default rows i e d within in
    omega (arith, ap (λ (r : Row). r.stamp) same, ap (λ (r : Row). r.stamp) other, rising k i e less within)
