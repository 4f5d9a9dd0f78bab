-- What a table holds stays so, as a row comes, is taken back, and goes.
use Rattle.std.proofs.Common.{◌≡◌, ◌∙◌, ℕ, ◌<◌, ◌≤◌, Bool, true, false, cond, not, ◌==◌, List, [], ◌∷◌, ◌++◌, filter, find, All, Option, None, Some, refl, ap, sym, subst, arith}
use Rattle.std.specs.Result.{is_err, IfOk, OnErr}
use Rattle.std.specs.Set.{remove_key}
use Rattle.std.proofs.Common.{Result, Ok, Err}
use Rattle.std.proofs.lemmas.Bool.{eqb-true}
use Rattle.std.proofs.lemmas.List.Elements.{All-nil, All-append, All-cons, All-filter, All-weaker}
use Rattle.std.proofs.lemmas.List.Kept.{AllPairs-filter}
use Rattle.std.proofs.lemmas.List.Quantifiers.{all_pairs_push}
use Rattle.ob_model.specs.declared.state.Row.{Row}
use Rattle.ob_rows.specs.declared.index.NameIndex.{NameIndex}
use Rattle.ob_rows.specs.Hashes.{row_hash}
use Rattle.ob_rows.specs.Index.{AreUpTo, IsTable, is_hashed, stamps_hashed, stamps_under}
use Rattle.ob_rows.specs.Rows.{AreByStamp}
use Rattle.ob_rows.proofs.Hashed.{stamps-push, stamps-taken, taken_back}
use Rattle.ob_rows.proofs.Rising.{Before, each_is_found, has_other, has_stamp}

-- what a result says by its test
pub where_err : {A E : Type 0} (r : Result A E) (P : Type 0) → is_err r ≡ true → OnErr r P → P
where_err (Ok x) P e h = cc
where_err (Err x) P e h = h

pub where_ok : {A E : Type 0} (r : Result A E) (P : Type 0) → is_err r ≡ false → IfOk r (λ _. P) → P
where_ok (Ok x) P e h = h
where_ok (Err x) P e h = cc

-- the index has one more stamp under a hash, and has one less
abbrev pub AddsStamp : NameIndex → NameIndex → ℕ → ℕ → Type 0
AddsStamp old new hash stamp = (h : ℕ) → stamps_under new h ≡ cond (hash == h) (stamps_under old h ++ stamp ∷ []) (stamps_under old h)

abbrev pub TakesStamp : NameIndex → NameIndex → ℕ → ℕ → Type 0
TakesStamp old new hash stamp = (h : ℕ) → stamps_under new h ≡ cond (hash == h) (remove_key (λ s. s == stamp) (stamps_under old h)) (stamps_under old h)

-- where no row has a stamp all stay without it
pub none_goes : (stamp : ℕ) (rows : List Row) → None ≡ find (has_stamp stamp) rows → filter (has_other stamp) rows ≡ rows
none_goes stamp [] none = refl
none_goes stamp (r ∷ rows) none = go (has_stamp stamp r) none (none_goes stamp rows)
  where
    go : (b : Bool) → None ≡ cond b (Some r) (find (has_stamp stamp) rows) → (None ≡ find (has_stamp stamp) rows → filter (has_other stamp) rows ≡ rows)
        → cond (not b) (r ∷ filter (has_other stamp) rows) (filter (has_other stamp) rows) ≡ r ∷ rows
    go true at more = cc
    go false at more = ap (λ xs. r ∷ xs) (more at)

-- no stamp is above the one that was added last
pub up_to_added : (rows : List Row) (r : Row) → All (λ x. x.stamp < r.stamp) rows → AreUpTo (Some r.stamp) (rows ++ r ∷ [])
up_to_added rows r newest =
    All-append (λ x. x.stamp ≤ r.stamp) rows (r ∷ [])
    (All-weaker (λ x. x.stamp < r.stamp) (λ x. x.stamp ≤ r.stamp) (λ x low. omega (arith, low)) rows newest)
    (All-cons (λ x. x.stamp ≤ r.stamp) r [] (omega arith) (All-nil (λ x. x.stamp ≤ r.stamp)))

up_to_removed : (stamp : ℕ) (newest : Option ℕ) (rows : List Row) → AreUpTo newest rows → AreUpTo newest (filter (has_other stamp) rows)
up_to_removed stamp None rows none = ap (filter (has_other stamp)) none
up_to_removed stamp (Some n) rows up = All-filter (has_other stamp) (λ x. x.stamp ≤ n) rows up

module _ (rows later : List Row) (old : NameIndex) (newest_had : Option ℕ) (held : IsTable rows old newest_had) where
  -- a row comes after the others
  pub held-added : (new : NameIndex) (r : Row) (hash : ℕ) → hash ≡ row_hash r.directory r.name → All (λ x. x.stamp < r.stamp) rows → later ≡ rows ++ r ∷ []
      → AddsStamp old new hash r.stamp → IsTable later new (Some r.stamp)
  held-added new r hash same newest added adds = record {
    rising = subst AreByStamp (sym added) (all_pairs_push Before rows r held.rising newest);
    index = λ h.
        adds h ∙ ap (λ n. cond (n == h) (stamps_under old h ++ r.stamp ∷ []) (stamps_under old h)) same
        ∙ ap (λ ss. cond (is_hashed h r) (ss ++ r.stamp ∷ []) ss) (held.index h)
        ∙ stamps-push rows r h ∙ ap (λ l. stamps_hashed l h) (sym added);
    up_to = subst (AreUpTo (Some r.stamp)) (sym added) (up_to_added rows r newest);
  }

  -- it is taken back from the index, where no row came
  pub held-taken_back : (mid new : NameIndex) (hash stamp : ℕ) → All (λ x. x.stamp < stamp) rows → later ≡ rows
      → AddsStamp old mid hash stamp → TakesStamp mid new hash stamp → IsTable later new newest_had
  held-taken_back mid new hash stamp newest stay adds takes =
      subst (λ l. IsTable l new newest_had) (sym stay) (record {
        rising = held.rising;
        index = λ h.
            takes h
            ∙ taken_back rows hash stamp h (stamps_under mid h) newest
            (adds h ∙ ap (λ ss. cond (hash == h) (ss ++ stamp ∷ []) ss) (held.index h));
        up_to = held.up_to;
      })

  -- no row has the stamp that is to go
  pub held-none : (stamp : ℕ) → later ≡ filter (has_other stamp) rows → None ≡ find (has_stamp stamp) rows → IsTable later old newest_had
  held-none stamp removed none = subst (λ l. IsTable l old newest_had) (sym (removed ∙ none_goes stamp rows none)) held

  -- the row of a stamp goes
  pub held-removed : (stamp : ℕ) → later ≡ filter (has_other stamp) rows → (new : NameIndex) (r : Row) (hash : ℕ) → hash ≡ row_hash r.directory r.name → Some r ≡ find (has_stamp stamp) rows
      → TakesStamp old new hash stamp → IsTable later new newest_had
  held-removed stamp removed new r hash same at takes = record {
    rising = subst AreByStamp (sym removed) (AllPairs-filter Before (has_other stamp) rows held.rising);
    index = λ h.
        takes h ∙ ap (λ ss. cond (hash == h) (remove_key (λ s. s == stamp) ss) ss) (held.index h)
        ∙ stamps-taken stamp hash h rows held.rising (λ k d below. own _ (each_is_found rows held.rising k d below))
        ∙ ap (λ l. stamps_hashed l h) (sym removed);
    up_to = subst (AreUpTo newest_had) (sym removed) (up_to_removed stamp newest_had rows held.up_to);
  }
    where
      own : (x : Row) → find (has_stamp x.stamp) rows ≡ Some x → has_stamp stamp x ≡ true → row_hash x.directory x.name ≡ hash
      own x there here =
          let found : find (has_stamp x.stamp) rows ≡ Some r = ap (λ n. find (has_stamp n) rows) (eqb-true x.stamp stamp here) ∙ sym at in
          let both : Some x ≡ Some r = sym there ∙ found in
          let is : x ≡ r = cc in
          ap (λ (y : Row). row_hash y.directory y.name) is ∙ sym same
