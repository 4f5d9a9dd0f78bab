-- The stamps under the hashes of rows, as rows come and go.
use Rattle.std.proofs.Common.{◌≡◌, ◌∙◌, ℕ, ◌<◌, Bool, true, false, cond, not, ◌==◌, List, [], ◌∷◌, ◌++◌, filter, map, All, refl, ap, sym, arith}
use Rattle.std.specs.Set.{remove_key}
use Rattle.std.proofs.lemmas.Bool.{eq-eqb, ne_eqb}
use Rattle.std.proofs.lemmas.List.Elements.{All-head, All-tail, All-cons, filter-append}
use Rattle.ob_model.proofs.Sorted.{pairs_tail}
use Rattle.ob_model.specs.declared.state.Row.{Row}
use Rattle.ob_rows.specs.Hashes.{row_hash}
use Rattle.ob_rows.specs.Index.{is_hashed, stamps_hashed}
use Rattle.ob_rows.specs.Rows.{AreByStamp}
use Rattle.ob_rows.proofs.Rising.{Before, has_other, has_stamp, others_stay}

-- ---- a row comes

map-push : (f : Row → ℕ) (rows : List Row) (r : Row) → map f (rows ++ r ∷ []) ≡ map f rows ++ f r ∷ []
map-push f [] r = refl
map-push f (x ∷ rows) r = ap (λ xs. f x ∷ xs) (map-push f rows r)

append_none : (rows : List Row) → rows ++ [] ≡ rows
append_none [] = refl
append_none (r ∷ rows) = ap (λ xs. r ∷ xs) (append_none rows)

-- its stamp is behind the others under its hash
pub stamps-push : (rows : List Row) (r : Row) (h : ℕ)
    → cond (is_hashed h r) (stamps_hashed rows h ++ r.stamp ∷ []) (stamps_hashed rows h) ≡ stamps_hashed (rows ++ r ∷ []) h
stamps-push rows r h =
    go (is_hashed h r) refl
    ∙ sym (ap (map (λ x. x.stamp)) (filter-append (is_hashed h) rows (r ∷ [])))
  where
    kept : List Row
    kept = filter (is_hashed h) rows

    go : (b : Bool) → is_hashed h r ≡ b
        → cond b (map (λ x. x.stamp) kept ++ r.stamp ∷ []) (map (λ x. x.stamp) kept) ≡ map (λ x. x.stamp) (kept ++ cond (is_hashed h r) (r ∷ []) [])
    go true same = sym (map-push (λ x. x.stamp) kept r) ∙ ap (λ b. map (λ x. x.stamp) (kept ++ cond b (r ∷ []) [])) (sym same)
    go false other = sym (ap (map (λ x. x.stamp)) (append_none kept)) ∙ ap (λ b. map (λ x. x.stamp) (kept ++ cond b (r ∷ []) [])) (sym other)

-- and where it is taken back the others are left
remove_last : (stamp : ℕ) (ss : List ℕ) → All (λ s. s < stamp) ss → remove_key (λ s. s == stamp) (ss ++ stamp ∷ []) ≡ ss
remove_last stamp [] newest = ap (λ b. cond b [] (stamp ∷ [])) (eq-eqb stamp stamp refl)
remove_last stamp (s ∷ ss) newest =
    ap (λ b. cond b (ss ++ stamp ∷ []) (s ∷ remove_key (λ t. t == stamp) (ss ++ stamp ∷ [])))
    (ne_eqb s stamp (λ same. omega (arith, same, All-head (λ t. t < stamp) s ss newest)))
    ∙ ap (λ xs. s ∷ xs) (remove_last stamp ss (All-tail (λ t. t < stamp) s ss newest))

below_stamps : (keeps : Row → Bool) (stamp : ℕ) (rows : List Row) → All (λ r. r.stamp < stamp) rows → All (λ s. s < stamp) (map (λ r. r.stamp) (filter keeps rows))
below_stamps keeps stamp [] newest = λ k d below. absurd (omega (arith, below))
below_stamps keeps stamp (r ∷ rows) newest = go (keeps r) (below_stamps keeps stamp rows (All-tail (λ x. x.stamp < stamp) r rows newest))
  where
    go : (b : Bool) → All (λ s. s < stamp) (map (λ x. x.stamp) (filter keeps rows)) → All (λ s. s < stamp) (map (λ x. x.stamp) (cond b (r ∷ filter keeps rows) (filter keeps rows)))
    go true more = All-cons (λ s. s < stamp) r.stamp (map (λ x. x.stamp) (filter keeps rows)) (All-head (λ x. x.stamp < stamp) r rows newest) more
    go false more = more

pub taken_back : (rows : List Row) (hash stamp h : ℕ) (mid : List ℕ) → All (λ r. r.stamp < stamp) rows
    → mid ≡ cond (hash == h) (stamps_hashed rows h ++ stamp ∷ []) (stamps_hashed rows h)
    → cond (hash == h) (remove_key (λ s. s == stamp) mid) mid ≡ stamps_hashed rows h
taken_back rows hash stamp h mid newest is = go (hash == h) is
  where
    go : (b : Bool) → mid ≡ cond b (stamps_hashed rows h ++ stamp ∷ []) (stamps_hashed rows h) → cond b (remove_key (λ s. s == stamp) mid) mid ≡ stamps_hashed rows h
    go true e = ap (remove_key (λ s. s == stamp)) e ∙ remove_last stamp (stamps_hashed rows h) (below_stamps (is_hashed h) stamp rows newest)
    go false e = e

-- ---- a row goes

module _ (stamp hash h : ℕ) where
  -- from under the hash goes the stamp
  abbrev taken : List ℕ → List ℕ
  taken ss = cond (hash == h) (remove_key (λ s. s == stamp) ss) ss

  pub stamps-taken : (rows : List Row) → AreByStamp rows → All (λ r. has_stamp stamp r ≡ true → row_hash r.directory r.name ≡ hash) rows
      → taken (stamps_hashed rows h) ≡ stamps_hashed (filter (has_other stamp) rows) h
  stamps-taken [] rising own = go (hash == h)
    where
      go : (b : Bool) → cond b (remove_key {K = ℕ} (λ s. s == stamp) []) [] ≡ []
      go true = refl
      go false = refl
  stamps-taken (r ∷ rows) rising own =
      go (has_stamp stamp r) (is_hashed h r) (hash == h) refl refl refl
      (stamps-taken rows (pairs_tail Before r rows rising) (All-tail (λ x. has_stamp stamp x ≡ true → row_hash x.directory x.name ≡ hash) r rows own))
    where
      own_hash : has_stamp stamp r ≡ true → row_hash r.directory r.name ≡ hash
      own_hash = All-head (λ x. has_stamp stamp x ≡ true → row_hash x.directory x.name ≡ hash) r rows own

      keeps : Row → Bool
      keeps x = is_hashed h x

      go : (a b c : Bool) → has_stamp stamp r ≡ a → is_hashed h r ≡ b → (hash == h) ≡ c
          → taken (stamps_hashed rows h) ≡ stamps_hashed (filter (has_other stamp) rows) h
          → cond c (remove_key (λ s. s == stamp) (map (λ x. x.stamp) (cond b (r ∷ filter keeps rows) (filter keeps rows)))) (map (λ x. x.stamp) (cond b (r ∷ filter keeps rows) (filter keeps rows)))
          ≡ map (λ x. x.stamp) (filter keeps (cond (not a) (r ∷ filter (has_other stamp) rows) (filter (has_other stamp) rows)))
      go true true true here same is more =
          ap (λ b. cond b (stamps_hashed rows h) (r.stamp ∷ remove_key (λ s. s == stamp) (stamps_hashed rows h))) here
          ∙ ap (λ xs. stamps_hashed xs h) (sym (others_stay stamp r rows rising here))
      go true true false here same is more = let both : is_hashed h r ≡ (hash == h) = ap (λ n. n == h) (own_hash here) in cc
      go true false true here same is more = let both : is_hashed h r ≡ (hash == h) = ap (λ n. n == h) (own_hash here) in cc
      go true false false here same is more = ap (λ xs. stamps_hashed xs h) (sym (others_stay stamp r rows rising here))
      go false true true there same is more =
          ap (λ b. cond b (stamps_hashed rows h) (r.stamp ∷ remove_key (λ s. s == stamp) (stamps_hashed rows h))) there
          ∙ ap (λ xs. r.stamp ∷ xs) (ap (λ b. cond b (remove_key (λ s. s == stamp) (stamps_hashed rows h)) (stamps_hashed rows h)) (sym is) ∙ more)
          ∙ ap (λ b. map (λ x. x.stamp) (cond b (r ∷ filter keeps (filter (has_other stamp) rows)) (filter keeps (filter (has_other stamp) rows)))) (sym same)
      go false true false there same is more =
          ap (λ xs. r.stamp ∷ xs) (ap (λ b. cond b (remove_key (λ s. s == stamp) (stamps_hashed rows h)) (stamps_hashed rows h)) (sym is) ∙ more)
          ∙ ap (λ b. map (λ x. x.stamp) (cond b (r ∷ filter keeps (filter (has_other stamp) rows)) (filter keeps (filter (has_other stamp) rows)))) (sym same)
      go false false c there other is more =
          ap (λ b. cond b (remove_key (λ s. s == stamp) (stamps_hashed rows h)) (stamps_hashed rows h)) (sym is) ∙ more
          ∙ ap (λ b. map (λ x. x.stamp) (cond b (r ∷ filter keeps (filter (has_other stamp) rows)) (filter keeps (filter (has_other stamp) rows)))) (sym other)
