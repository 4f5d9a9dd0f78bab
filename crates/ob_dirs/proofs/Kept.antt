-- The invariant of a directory stays when an entry is inserted, taken back, and removed.
use Rattle.std.proofs.Common.{◌≡◌, ◌≢◌, ◌∙◌, ℕ, ◌-◌, ◌<◌, Bool, true, false, cond, not, ◌==◌, List, [], ◌∷◌, ◌++◌, filter, find, All, arith, length, get_or, None, Some, refl, ap, sym, subst}
use Rattle.std.specs.Result.{is_err, OnErr, OnOk}
use Rattle.std.specs.Set.{remove_key}
use Rattle.std.proofs.Common.{Result, Ok, Err}
use Rattle.std.proofs.lemmas.Bool.{eqb-true}
use Rattle.std.proofs.lemmas.List.Kept.{AllPairs-filter}
use Rattle.std.proofs.lemmas.List.{length-append, get_or_append_left, get_or-append_right}
use Rattle.std.proofs.lemmas.List.Quantifiers.{all_pairs_push}
use Rattle.ob_dirs.specs.declared.entry.DirEntry.{DirEntry}
use Rattle.ob_dirs.specs.declared.index.NameIndex.{NameIndex}
use Rattle.ob_dirs.specs.Dir.{ComesBefore, IsDir}
use Rattle.ob_dirs.specs.Hashes.{name_hash}
use Rattle.ob_dirs.specs.Index.{IsHeld, stamps_hashed, stamps_under}
use Rattle.ob_dirs.proofs.Hashed.{stamps-push, stamps-taken, taken_back}
use Rattle.ob_dirs.proofs.Held.{each_is_found}
use Rattle.ob_dirs.proofs.Removed.{has_stamp, has_other}

-- what a result says by its test
pub where_ok : {A E : Type 0} (r : Result A E) (P : Type 0) → is_err r ≡ false → OnOk r P → P
where_ok (Ok x) P e h = h
where_ok (Err x) P e h = cc

pub where_err : {A E : Type 0} (r : Result A E) (P : Type 0) → is_err r ≡ true → OnErr r P → P
where_err (Ok x) P e h = cc
where_err (Err x) P e h = h

-- the index has one more stamp under a hash, and has one less
abbrev pub AddsStamp : NameIndex → NameIndex → ℕ → ℕ → Type 0
AddsStamp old new hash stamp = (h : ℕ) → stamps_under new h ≡ cond (hash == h) (stamps_under old h ++ stamp ∷ []) (stamps_under old h)

abbrev pub TakesStamp : NameIndex → NameIndex → ℕ → ℕ → Type 0
TakesStamp old new hash stamp = (h : ℕ) → stamps_under new h ≡ cond (hash == h) (remove_key (λ s. s == stamp) (stamps_under old h)) (stamps_under old h)

-- where no entry has a stamp all stay without it
none_goes : (stamp : ℕ) (es : List DirEntry) → None ≡ find (has_stamp stamp) es → filter (has_other stamp) es ≡ es
none_goes stamp [] none = refl
none_goes stamp (e ∷ es) none = go (has_stamp stamp e) none (none_goes stamp es)
  where
    go : (b : Bool) → None ≡ cond b (Some e) (find (has_stamp stamp) es) → (None ≡ find (has_stamp stamp) es → filter (has_other stamp) es ≡ es)
        → cond (not b) (e ∷ filter (has_other stamp) es) (filter (has_other stamp) es) ≡ e ∷ es
    go true at more = cc
    go false at more = ap (λ xs. e ∷ xs) (more at)

-- an entry of a directory comes after each of those before it
pub comes_before : (xs : List DirEntry) (e : DirEntry) (ys entries rest : List DirEntry) → IsDir entries → rest ≡ e ∷ ys → xs ++ rest ≡ entries
    → (k : ℕ) (d : DirEntry) → k < length xs → ComesBefore (get_or xs k d) e
comes_before xs e ys entries rest dir next whole k d below =
    let cut : xs ++ e ∷ ys ≡ entries = ap (λ (es : List DirEntry). xs ++ es) (sym next) ∙ whole in
    let within : length xs < length (xs ++ e ∷ ys) = omega (arith, length-append xs (e ∷ ys)) in
    let none : length xs - length xs ≡ 0 = omega arith in
    let here : get_or (xs ++ e ∷ ys) (length xs) d ≡ e =
    get_or-append_right xs (e ∷ ys) (length xs) (length xs) d refl (omega arith) ∙ ap (λ (n : ℕ). get_or (e ∷ ys) n d) none
    in
    subst (λ (x : DirEntry). ComesBefore (get_or xs k d) x) here
    (subst (λ (x : DirEntry). ComesBefore x (get_or (xs ++ e ∷ ys) (length xs) d)) (get_or_append_left xs (e ∷ ys) d k below)
    (subst IsDir (sym cut) dir k (length xs) d below within))

module _ (es fs : List DirEntry) (old : NameIndex) (held : IsHeld es old) where
  -- an entry comes behind the others
  pub held-inserted : (new : NameIndex) (e : DirEntry) (hash : ℕ) → hash ≡ name_hash e.name → All (λ x. x.stamp < e.stamp) es → fs ≡ es ++ e ∷ []
      → All (λ x. x.name ≢ e.name) es → AddsStamp old new hash e.stamp → IsHeld fs new
  held-inserted new e hash same newest inserted free adds = record {
    dir =
        subst IsDir (sym inserted)
        (all_pairs_push ComesBefore es e held.dir (λ k d below. (newest k d below, free k d below)));
    index = λ h.
        adds h ∙ ap (λ n. cond (n == h) (stamps_under old h ++ e.stamp ∷ []) (stamps_under old h)) same
        ∙ ap (λ ss. cond (name_hash e.name == h) (ss ++ e.stamp ∷ []) ss) (held.index h)
        ∙ stamps-push es e h ∙ ap (λ l. stamps_hashed l h) (sym inserted);
  }

  -- it is taken back from the index, where no entry came
  pub held-taken_back : (mid new : NameIndex) (hash stamp : ℕ) → All (λ x. x.stamp < stamp) es → fs ≡ es
      → AddsStamp old mid hash stamp → TakesStamp mid new hash stamp → IsHeld fs new
  held-taken_back mid new hash stamp newest stay adds takes =
      subst (λ l. IsHeld l new) (sym stay) (record {
        dir = held.dir;
        index = λ h.
            takes h
            ∙ taken_back es hash stamp h (stamps_under mid h) newest
            (adds h ∙ ap (λ ss. cond (hash == h) (ss ++ stamp ∷ []) ss) (held.index h));
      })

  -- no entry has the stamp that is to go
  pub held-none : (stamp : ℕ) → fs ≡ filter (has_other stamp) es → None ≡ find (has_stamp stamp) es → IsHeld fs old
  held-none stamp removed none = subst (λ l. IsHeld l old) (sym (removed ∙ none_goes stamp es none)) held

  -- the entry of a stamp goes
  pub held-removed : (stamp : ℕ) → fs ≡ filter (has_other stamp) es → (new : NameIndex) (e : DirEntry) (hash : ℕ) → hash ≡ name_hash e.name → Some e ≡ find (has_stamp stamp) es
      → TakesStamp old new hash stamp → IsHeld fs new
  held-removed stamp removed new e hash same at takes = record {
    dir = subst IsDir (sym removed) (AllPairs-filter ComesBefore (has_other stamp) es held.dir);
    index = λ h.
        takes h ∙ ap (λ ss. cond (hash == h) (remove_key (λ s. s == stamp) ss) ss) (held.index h)
        ∙ stamps-taken stamp hash h es held.dir (λ k d below. own _ (each_is_found es held.dir k d below))
        ∙ ap (λ l. stamps_hashed l h) (sym removed);
  }
    where
      own : (x : DirEntry) → find (has_stamp x.stamp) es ≡ Some x → has_stamp stamp x ≡ true → name_hash x.name ≡ hash
      own x there here =
          let found : find (has_stamp x.stamp) es ≡ Some e = ap (λ n. find (has_stamp n) es) (eqb-true x.stamp stamp here) ∙ sym at in
          let both : Some x ≡ Some e = sym there ∙ found in
          let is : x ≡ e = cc in
          ap (λ (y : DirEntry). name_hash y.name) is ∙ sym same
