-- The stamps under the hashes of a directory's names, as entries come and go, and what is found by them.
use Rattle.std.proofs.Common.{◌≡◌, ◌∙◌, ℕ, ◌<◌, Bool, true, false, cond, not, ◌&&◌, ◌==◌, List, [], ◌∷◌, ◌++◌, filter, find, map, All, Option, None, Some, refl, ap, sym, arith}
use Rattle.std.specs.Option.{option_or}
use Rattle.std.specs.Set.{remove_key}
use Rattle.std.proofs.lemmas.Bool.{eqb-true, eq-eqb, ne_eqb}
use Rattle.std.proofs.lemmas.List.Elements.{All-head, All-tail, All-cons, filter-append}
use Rattle.ob_model.specs.Names.{upper, same_byte, same_name}
use Rattle.ob_dirs.specs.declared.entry.DirEntry.{DirEntry}
use Rattle.ob_dirs.specs.Dir.{IsDir, is_named}
use Rattle.ob_dirs.specs.Hashes.{name_hash}
use Rattle.ob_dirs.specs.Index.{first_named, entry_named, stamps_hashed}
use Rattle.ob_dirs.proofs.Earliest.{others_are_dir}
use Rattle.ob_dirs.proofs.Removed.{has_stamp, has_other, others_stay}

-- ---- equal names have equal hashes

same_upper : (fold : Bool) (a b : ℕ) → same_byte fold a b ≡ true → upper a ≡ upper b
same_upper true a b same = eqb-true (upper a) (upper b) same
same_upper false a b same = ap upper (eqb-true a b same)

same_folded : (fold : Bool) (xs ys : List ℕ) → same_name fold xs ys ≡ true → map upper xs ≡ map upper ys
same_folded fold [] [] same = refl
same_folded fold [] (y ∷ ys) same = cc
same_folded fold (x ∷ xs) [] same = cc
same_folded fold (x ∷ xs) (y ∷ ys) same = go (same_byte fold x y) refl (same_folded fold xs ys) same
  where
    go : (b : Bool) → same_byte fold x y ≡ b → (same_name fold xs ys ≡ true → map upper xs ≡ map upper ys) → (b && same_name fold xs ys) ≡ true → upper x ∷ map upper xs ≡ upper y ∷ map upper ys
    go true first rest others = (λ i. same_upper fold x y first i ∷ rest others i)
    go false first rest others = cc

pub same_hash : (fold : Bool) (xs ys : List ℕ) → same_name fold xs ys ≡ true → name_hash xs ≡ name_hash ys
unfolding name_hash
same_hash fold xs ys same = ap Rattle.ob_dirs.specs.Hashes.folded_hash (same_folded fold xs ys same)

-- ---- what is found

module _ (entry_at : ℕ → Option DirEntry) (component : List ℕ) (fold : Bool) (keeps : DirEntry → Bool) (kept : (e : DirEntry) → is_named component fold e ≡ true → keeps e ≡ true) where
  first_named-kept : (es : List DirEntry) → All (λ e. entry_at e.stamp ≡ Some e) es
      → first_named entry_at component fold (map (λ e. e.stamp) (filter keeps es)) ≡ find (is_named component fold) es
  first_named-kept [] at = refl
  first_named-kept (e ∷ es) at =
      go (keeps e) (is_named component fold e) refl refl (first_named-kept es (All-tail (λ x. entry_at x.stamp ≡ Some x) e es at))
    where
      rest : Option DirEntry
      rest = first_named entry_at component fold (map (λ x. x.stamp) (filter keeps es))

      joined : (b : Bool) → option_or (cond b (Some e) None) rest ≡ cond b (Some e) rest
      joined true = refl
      joined false = refl

      go : (a b : Bool) → keeps e ≡ a → is_named component fold e ≡ b → rest ≡ find (is_named component fold) es
          → first_named entry_at component fold (map (λ x. x.stamp) (cond a (e ∷ filter keeps es) (filter keeps es))) ≡ cond b (Some e) (find (is_named component fold) es)
      go true b is_kept named more =
          ap (λ o. option_or (entry_named component fold o) rest) (All-head (λ x. entry_at x.stamp ≡ Some x) e es at)
          ∙ ap (λ c. option_or (cond c (Some e) None) rest) named ∙ joined b ∙ ap (cond b (Some e)) more
      go false true is_kept named more = let no : keeps e ≡ true = kept e named in cc
      go false false is_kept named more = more

-- of the entries whose names have the component's hash, the first that is named so is the first of all
pub first_named-hashed : (entry_at : ℕ → Option DirEntry) (component : List ℕ) (fold : Bool) (es : List DirEntry) → All (λ e. entry_at e.stamp ≡ Some e) es
    → first_named entry_at component fold (stamps_hashed es (name_hash component)) ≡ find (is_named component fold) es
first_named-hashed entry_at component fold es at =
    first_named-kept entry_at component fold (λ e. name_hash e.name == name_hash component)
    (λ e named. eq-eqb (name_hash e.name) (name_hash component) (same_hash fold e.name component named)) es at

-- ---- an entry comes

map-push : (f : DirEntry → ℕ) (es : List DirEntry) (e : DirEntry) → map f (es ++ e ∷ []) ≡ map f es ++ f e ∷ []
map-push f [] e = refl
map-push f (x ∷ es) e = ap (λ xs. f x ∷ xs) (map-push f es e)

append_none : (xs : List DirEntry) → xs ++ [] ≡ xs
append_none [] = refl
append_none (x ∷ xs) = ap (λ ys. x ∷ ys) (append_none xs)

-- its stamp is behind the others under its hash
pub stamps-push : (es : List DirEntry) (e : DirEntry) (h : ℕ)
    → cond (name_hash e.name == h) (stamps_hashed es h ++ e.stamp ∷ []) (stamps_hashed es h) ≡ stamps_hashed (es ++ e ∷ []) h
stamps-push es e h =
    go (name_hash e.name == h) refl
    ∙ sym (ap (map (λ x. x.stamp)) (filter-append (λ x. name_hash x.name == h) es (e ∷ [])))
  where
    kept : List DirEntry
    kept = filter (λ x. name_hash x.name == h) es

    go : (b : Bool) → (name_hash e.name == h) ≡ b
        → cond b (map (λ x. x.stamp) kept ++ e.stamp ∷ []) (map (λ x. x.stamp) kept) ≡ map (λ x. x.stamp) (kept ++ cond (name_hash e.name == h) (e ∷ []) [])
    go true same = sym (map-push (λ x. x.stamp) kept e) ∙ ap (λ b. map (λ x. x.stamp) (kept ++ cond b (e ∷ []) [])) (sym same)
    go false other = sym (ap (map (λ x. x.stamp)) (append_none kept)) ∙ ap (λ b. map (λ x. x.stamp) (kept ++ cond b (e ∷ []) [])) (sym other)

-- and where it is taken back the others are left
remove_last : (stamp : ℕ) (ss : List ℕ) → All (λ s. s < stamp) ss → remove_key (λ s. s == stamp) (ss ++ stamp ∷ []) ≡ ss
remove_last stamp [] newest = ap (λ b. cond b [] (stamp ∷ [])) (eq-eqb stamp stamp refl)
remove_last stamp (s ∷ ss) newest =
    ap (λ b. cond b (ss ++ stamp ∷ []) (s ∷ remove_key (λ t. t == stamp) (ss ++ stamp ∷ [])))
    (ne_eqb s stamp (λ same. omega (arith, same, All-head (λ t. t < stamp) s ss newest)))
    ∙ ap (λ xs. s ∷ xs) (remove_last stamp ss (All-tail (λ t. t < stamp) s ss newest))

below_stamps : (keeps : DirEntry → Bool) (stamp : ℕ) (es : List DirEntry) → All (λ e. e.stamp < stamp) es → All (λ s. s < stamp) (map (λ e. e.stamp) (filter keeps es))
below_stamps keeps stamp [] newest = λ k d below. absurd (omega (arith, below))
below_stamps keeps stamp (e ∷ es) newest = go (keeps e) (below_stamps keeps stamp es (All-tail (λ x. x.stamp < stamp) e es newest))
  where
    go : (b : Bool) → All (λ s. s < stamp) (map (λ x. x.stamp) (filter keeps es)) → All (λ s. s < stamp) (map (λ x. x.stamp) (cond b (e ∷ filter keeps es) (filter keeps es)))
    go true more = All-cons (λ s. s < stamp) e.stamp (map (λ x. x.stamp) (filter keeps es)) (All-head (λ x. x.stamp < stamp) e es newest) more
    go false more = more

pub taken_back : (es : List DirEntry) (hash stamp h : ℕ) (mid : List ℕ) → All (λ e. e.stamp < stamp) es
    → mid ≡ cond (hash == h) (stamps_hashed es h ++ stamp ∷ []) (stamps_hashed es h)
    → cond (hash == h) (remove_key (λ s. s == stamp) mid) mid ≡ stamps_hashed es h
taken_back es hash stamp h mid newest is = go (hash == h) is
  where
    go : (b : Bool) → mid ≡ cond b (stamps_hashed es h ++ stamp ∷ []) (stamps_hashed es h) → cond b (remove_key (λ s. s == stamp) mid) mid ≡ stamps_hashed es h
    go true e = ap (remove_key (λ s. s == stamp)) e ∙ remove_last stamp (stamps_hashed es h) (below_stamps (λ x. name_hash x.name == h) stamp es newest)
    go false e = e

-- ---- an entry goes

module _ (stamp hash h : ℕ) where
  -- from under the hash goes the stamp
  abbrev taken : List ℕ → List ℕ
  taken ss = cond (hash == h) (remove_key (λ s. s == stamp) ss) ss

  pub stamps-taken : (es : List DirEntry) → IsDir es → All (λ e. has_stamp stamp e ≡ true → name_hash e.name ≡ hash) es
      → taken (stamps_hashed es h) ≡ stamps_hashed (filter (has_other stamp) es) h
  stamps-taken [] dir own = go (hash == h)
    where
      go : (b : Bool) → cond b (remove_key {K = ℕ} (λ s. s == stamp) []) [] ≡ []
      go true = refl
      go false = refl
  stamps-taken (e ∷ es) dir own =
      go (has_stamp stamp e) (name_hash e.name == h) (hash == h) refl refl refl (stamps-taken es (others_are_dir e es dir) (All-tail (λ x. has_stamp stamp x ≡ true → name_hash x.name ≡ hash) e es own))
    where
      own_hash : has_stamp stamp e ≡ true → name_hash e.name ≡ hash
      own_hash = All-head (λ x. has_stamp stamp x ≡ true → name_hash x.name ≡ hash) e es own

      keeps : DirEntry → Bool
      keeps x = name_hash x.name == h

      go : (a b c : Bool) → has_stamp stamp e ≡ a → (name_hash e.name == h) ≡ b → (hash == h) ≡ c
          → taken (stamps_hashed es h) ≡ stamps_hashed (filter (has_other stamp) es) h
          → cond c (remove_key (λ s. s == stamp) (map (λ x. x.stamp) (cond b (e ∷ filter keeps es) (filter keeps es)))) (map (λ x. x.stamp) (cond b (e ∷ filter keeps es) (filter keeps es)))
          ≡ map (λ x. x.stamp) (filter keeps (cond (not a) (e ∷ filter (has_other stamp) es) (filter (has_other stamp) es)))
      go true true true here same is more =
          ap (λ b. cond b (stamps_hashed es h) (e.stamp ∷ remove_key (λ s. s == stamp) (stamps_hashed es h))) here
          ∙ ap (λ xs. stamps_hashed xs h) (sym (others_stay stamp e es dir here))
      go true true false here same is more = let both : (name_hash e.name == h) ≡ (hash == h) = ap (λ n. n == h) (own_hash here) in cc
      go true false true here same is more = let both : (name_hash e.name == h) ≡ (hash == h) = ap (λ n. n == h) (own_hash here) in cc
      go true false false here same is more = ap (λ xs. stamps_hashed xs h) (sym (others_stay stamp e es dir here))
      go false true true there same is more =
          ap (λ b. cond b (stamps_hashed es h) (e.stamp ∷ remove_key (λ s. s == stamp) (stamps_hashed es h))) there
          ∙ ap (λ xs. e.stamp ∷ xs) (ap (λ b. cond b (remove_key (λ s. s == stamp) (stamps_hashed es h)) (stamps_hashed es h)) (sym is) ∙ more)
          ∙ ap (λ b. map (λ x. x.stamp) (cond b (e ∷ filter keeps (filter (has_other stamp) es)) (filter keeps (filter (has_other stamp) es)))) (sym same)
      go false true false there same is more =
          ap (λ xs. e.stamp ∷ xs) (ap (λ b. cond b (remove_key (λ s. s == stamp) (stamps_hashed es h)) (stamps_hashed es h)) (sym is) ∙ more)
          ∙ ap (λ b. map (λ x. x.stamp) (cond b (e ∷ filter keeps (filter (has_other stamp) es)) (filter keeps (filter (has_other stamp) es)))) (sym same)
      go false false c there other is more =
          ap (λ b. cond b (remove_key (λ s. s == stamp) (stamps_hashed es h)) (stamps_hashed es h)) (sym is) ∙ more
          ∙ ap (λ b. map (λ x. x.stamp) (cond b (e ∷ filter keeps (filter (has_other stamp) es)) (filter keeps (filter (has_other stamp) es)))) (sym other)
