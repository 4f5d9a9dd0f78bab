-- What stands under ids in any order, seen by rising ids, and a part of it: what is found there, and that a change of the one is that of the other.
use Rattle.std.proofs.Common.{◌≡◌, ◌∙◌, ℕ, Bool, true, false, cond, nat_eq, List, [], ◌∷◌, Option, None, Some, IsSome, refl, ap, sym, subst, arith, eqb-true}
use Rattle.std.proofs.lemmas.Bool.{false≢true}
use Rattle.std.proofs.lemmas.Bool.Decides.{nat_tests}
use Rattle.std.proofs.lemmas.Map.Keys.{sorted_head, sorted_tail}
use Rattle.std.specs.BTreeMap.{is_at, insert_entry}
use Rattle.std.specs.declared.cmp.Ordering.{Ordering}
use Rattle.std.specs.declared.cmp.Ordering.TheVariants.{Less, Equal, Greater}
use Rattle.std.specs.List.{AllByRecursion}
use Rattle.std.specs.List.Sorted.{IsStrictlySortedBy}
use Rattle.std.specs.Map.{keys_of, lookup, remove_entry, set_value}
use Rattle.std.specs.Ordering.{nat_cmp, match_ordering}
use Rattle.std.specs.Option.{option_and_then, option_map_or}
use Rattle.ob_objects.specs.ById.{by_id, parts}

-- ---- numbers

not_same_less : (a b : ℕ) → nat_cmp a b ≡ Less → is_at (nat_cmp a) b ≡ false
not_same_less a b e = grind (arith, nat_tests)

not_same_above : (q a b : ℕ) → nat_cmp a b ≡ Less → is_at (nat_cmp q) a ≡ true → is_at (nat_cmp q) b ≡ false
not_same_above q a b e same = grind (arith, nat_tests)

same_is : (a b : ℕ) → nat_cmp a b ≡ Equal → a ≡ b
same_is a b e = grind (arith, nat_tests)

at_same : (q a : ℕ) → is_at (nat_cmp q) a ≡ true → q ≡ a
at_same q a e = grind (arith, nat_tests)

at_itself : (q : ℕ) → is_at (nat_cmp q) q ≡ true
at_itself q = grind (arith, nat_tests)

turned : (a b : ℕ) → is_at (nat_cmp a) b ≡ is_at (nat_cmp b) a
turned a b = grind (arith, nat_tests)

equal_at : (a b : ℕ) → nat_eq a b ≡ is_at (nat_cmp a) b
equal_at a b = grind (arith, nat_tests)

greater_is_less : (a b : ℕ) → nat_cmp a b ≡ Greater → nat_cmp b a ≡ Less
greater_is_less a b e = grind (arith, nat_tests)

passed_on : (k y z : ℕ) → nat_cmp k y ≡ Less → nat_cmp y z ≡ Less → nat_cmp k z ≡ Less
passed_on k y z first second = grind (arith, nat_tests)

keys_passed_on : (k y : ℕ) (ks : List ℕ) → nat_cmp k y ≡ Less → AllByRecursion (λ z. nat_cmp y z ≡ Less) ks → AllByRecursion (λ z. nat_cmp k z ≡ Less) ks
keys_passed_on k y [] first above = tt
keys_passed_on k y (z ∷ ks) first above = (passed_on k y z first above.0, keys_passed_on k y ks first above.1)

none_some : {X : Type 0} {x : X} → None ≡ Some x → ⊥
none_some e = cc

module _ {X : Type 0} where
  -- what stands under an id
  abbrev at : ℕ → List (ℕ × X) → Option X
  at q es = lookup (is_at (nat_cmp q)) es

  abbrev Rises : List (ℕ × X) → Type 0
  Rises es = IsStrictlySortedBy nat_cmp (keys_of es)

  abbrev Above : ℕ → List (ℕ × X) → Type 0
  Above k es = AllByRecursion (λ y. nat_cmp k y ≡ Less) (keys_of es)

  -- ---- one entry more

  inserted_at : (q id : ℕ) (x : X) (es : List (ℕ × X)) → at q (insert_entry nat_cmp es id x) ≡ cond (is_at (nat_cmp q) id) (Some x) (at q es)
  inserted_at q id x [] = refl
  inserted_at q id x (e ∷ es) = go (nat_cmp id e.0) refl (inserted_at q id x es)
    where
      go : (r : Ordering) → nat_cmp id e.0 ≡ r → at q (insert_entry nat_cmp es id x) ≡ cond (is_at (nat_cmp q) id) (Some x) (at q es)
          → at q (match_ordering r ((id, x) ∷ e ∷ es) ((e.0, x) ∷ es) (e ∷ insert_entry nat_cmp es id x)) ≡ cond (is_at (nat_cmp q) id) (Some x) (at q (e ∷ es))
      go Less is more = refl
      go Equal is more =
          ap (λ (n : ℕ). cond (is_at (nat_cmp q) n) (Some x) (at q es)) (sym (same_is id e.0 is)) ∙ here (is_at (nat_cmp q) id) (is_at (nat_cmp q) e.0)
          (ap (is_at (nat_cmp q)) (same_is id e.0 is))
        where
          here : (a b : Bool) → a ≡ b → cond a (Some x) (at q es) ≡ cond a (Some x) (cond b (Some e.1) (at q es))
          here true b same = refl
          here false b same = ap (λ t. cond t (Some e.1) (at q es)) same
      go Greater is more = ap (cond (is_at (nat_cmp q) e.0) (Some e.1)) more ∙ apart (is_at (nat_cmp q) e.0) refl
        where
          apart : (a : Bool) → is_at (nat_cmp q) e.0 ≡ a
              → cond a (Some e.1) (cond (is_at (nat_cmp q) id) (Some x) (at q es)) ≡ cond (is_at (nat_cmp q) id) (Some x) (cond a (Some e.1) (at q es))
          apart true same = sym (ap (λ t. cond t (Some x) (Some e.1)) (not_same_above q e.0 id (greater_is_less id e.0 is) same))
          apart false other = refl

  above_inserted : (k id : ℕ) (x : X) (es : List (ℕ × X)) → nat_cmp k id ≡ Less → Above k es → Above k (insert_entry nat_cmp es id x)
  above_inserted k id x [] less above = (less, tt)
  above_inserted k id x (e ∷ es) less above = go (nat_cmp id e.0) (above_inserted k id x es less above.1)
    where
      go : (r : Ordering) → Above k (insert_entry nat_cmp es id x) → Above k (match_ordering r ((id, x) ∷ e ∷ es) ((e.0, x) ∷ es) (e ∷ insert_entry nat_cmp es id x))
      go Less more = (less, above)
      go Equal more = above
      go Greater more = (above.0, more)

  insert_rises : (id : ℕ) (x : X) (es : List (ℕ × X)) → Rises es → Rises (insert_entry nat_cmp es id x)
  unfolding IsStrictlySortedBy
  insert_rises id x [] rises = (tt, tt)
  insert_rises id x (e ∷ es) rises = go (nat_cmp id e.0) refl (insert_rises id x es rises.1)
    where
      go : (r : Ordering) → nat_cmp id e.0 ≡ r → Rises (insert_entry nat_cmp es id x) → Rises (match_ordering r ((id, x) ∷ e ∷ es) ((e.0, x) ∷ es) (e ∷ insert_entry nat_cmp es id x))
      go Less is more = ((is, keys_passed_on id e.0 (keys_of es) is rises.0), rises)
      go Equal is more = rises
      go Greater is more = (above_inserted e.0 id x es (greater_is_less id e.0 is) rises.0, more)

  -- ---- seen by rising ids

  pub by_id_rises : (es : List (ℕ × X)) → Rises (by_id es)
  unfolding IsStrictlySortedBy
  by_id_rises [] = tt
  by_id_rises (e ∷ es) = insert_rises e.0 e.1 (by_id es) (by_id_rises es)

  pub by_id_finds : (q : ℕ) (es : List (ℕ × X)) → lookup (is_at (nat_cmp q)) (by_id es) ≡ lookup (nat_eq q) es
  by_id_finds q [] = refl
  by_id_finds q (e ∷ es) = inserted_at q e.0 e.1 (by_id es) ∙ ap (λ o. cond (is_at (nat_cmp q) e.0) (Some e.1) o) (by_id_finds q es) ∙ ap (λ t. cond t (Some e.1) (lookup (nat_eq q) es)) (sym (equal_at q e.0))

  -- ---- entries that rise are the same where the same is found

  none_above : (q k : ℕ) (es : List (ℕ × X)) → Above k es → is_at (nat_cmp q) k ≡ true → at q es ≡ None
  none_above q k [] above same = refl
  none_above q k (e ∷ es) above same = ap (λ t. cond t (Some e.1) (at q es)) (not_same_above q k e.0 above.0 same) ∙ none_above q k es above.1 same

  none_below : (q : ℕ) (e : ℕ × X) (es : List (ℕ × X)) → Rises (e ∷ es) → nat_cmp q e.0 ≡ Less → at q (e ∷ es) ≡ None
  none_below q e es rises less =
      ap (λ t. cond t (Some e.1) (at q es)) (not_same_less q e.0 less)
      ∙ none_above q q es (keys_passed_on q e.0 (keys_of es) less (sorted_head nat_cmp e.0 (keys_of es) rises)) (at_itself q)

  head_found : (e : ℕ × X) (es : List (ℕ × X)) → at e.0 (e ∷ es) ≡ Some e.1
  head_found e es = ap (λ t. cond t (Some e.1) (at e.0 es)) (at_itself e.0)

  pub same_where_found : (es fs : List (ℕ × X)) → Rises es → Rises fs → ((q : ℕ) → at q es ≡ at q fs) → es ≡ fs
  same_where_found [] [] es_rise fs_rise same = refl
  same_where_found [] (f ∷ fs) es_rise fs_rise same = absurd (none_some (same f.0 ∙ head_found f fs))
  same_where_found (e ∷ es) [] es_rise fs_rise same = absurd (none_some (sym (same e.0) ∙ head_found e es))
  same_where_found (e ∷ es) (f ∷ fs) es_rise fs_rise same =
      go (nat_cmp e.0 f.0) refl (same_where_found es fs (sorted_tail nat_cmp e.0 (keys_of es) es_rise) (sorted_tail nat_cmp f.0 (keys_of fs) fs_rise))
    where
      behind : e.0 ≡ f.0 → (q : ℕ) → at q es ≡ at q fs
      behind is q = here (is_at (nat_cmp q) e.0) refl
        where
          here : (t : Bool) → is_at (nat_cmp q) e.0 ≡ t → at q es ≡ at q fs
          here true at_e =
              none_above q e.0 es (sorted_head nat_cmp e.0 (keys_of es) es_rise) at_e
              ∙ sym (none_above q f.0 fs (sorted_head nat_cmp f.0 (keys_of fs) fs_rise) (ap (is_at (nat_cmp q)) (sym is) ∙ at_e))
          here false other =
              sym (ap (λ t. cond t (Some e.1) (at q es)) other) ∙ same q
              ∙ ap (λ t. cond t (Some f.1) (at q fs)) (ap (is_at (nat_cmp q)) (sym is) ∙ other)

      value : e.0 ≡ f.0 → e.1 ≡ f.1
      value is = some_same (sym (head_found e es) ∙ same e.0 ∙ ap (λ q. at q (f ∷ fs)) is ∙ head_found f fs)
        where
          some_same : {x y : X} → Some x ≡ Some y → x ≡ y
          some_same s = cc

      go : (r : Ordering) → nat_cmp e.0 f.0 ≡ r → (((q : ℕ) → at q es ≡ at q fs) → es ≡ fs) → e ∷ es ≡ f ∷ fs
      go Less is more = absurd (none_some (sym (none_below e.0 f fs fs_rise is) ∙ sym (same e.0) ∙ head_found e es))
      go Equal is more =
          let number = same_is e.0 f.0 is in
          ap (λ (p : ℕ × X). p ∷ es) (pair number (value number)) ∙ ap (λ l. f ∷ l) (more (behind number))
        where
          pair : e.0 ≡ f.0 → e.1 ≡ f.1 → e ≡ f
          pair first second = ap (λ n. (n, e.1)) first ∙ ap (λ v. (f.0, v)) second
      go Greater is more = absurd (none_some (sym (none_below f.0 e es es_rise (greater_is_less e.0 f.0 is)) ∙ same f.0 ∙ head_found f fs))

  -- ---- what becomes of a value, and of an entry

  set_at : (q id : ℕ) (w : X) (es : List (ℕ × X)) → IsSome (at id es) → at q (set_value (is_at (nat_cmp id)) es w) ≡ cond (is_at (nat_cmp id) q) (Some w) (at q es)
  set_at q id w [] there = absurd (false≢true there)
  set_at q id w (e ∷ es) there = go (is_at (nat_cmp id) e.0) refl there (set_at q id w es)
    where
      go : (t : Bool) → is_at (nat_cmp id) e.0 ≡ t → IsSome (cond t (Some e.1) (at id es)) → (IsSome (at id es) → at q (set_value (is_at (nat_cmp id)) es w) ≡ cond (is_at (nat_cmp id) q) (Some w) (at q es))
          → at q (cond t ((e.0, w) ∷ es) (e ∷ set_value (is_at (nat_cmp id)) es w)) ≡ cond (is_at (nat_cmp id) q) (Some w) (at q (e ∷ es))
      go true is here more =
          let same : is_at (nat_cmp q) e.0 ≡ is_at (nat_cmp id) q = ap (is_at (nat_cmp q)) (sym (at_same id e.0 is)) ∙ turned q id in
          ap (λ t. cond t (Some w) (at q es)) same ∙ pick (is_at (nat_cmp id) q) (is_at (nat_cmp q) e.0) same
        where
          pick : (a b : Bool) → b ≡ a → cond a (Some w) (at q es) ≡ cond a (Some w) (cond b (Some e.1) (at q es))
          pick true b same = refl
          pick false b same = sym (ap (λ t. cond t (Some e.1) (at q es)) same)
      go false other behind more = ap (cond (is_at (nat_cmp q) e.0) (Some e.1)) (more behind) ∙ apart (is_at (nat_cmp q) e.0) refl
        where
          not_at : (a : Bool) → is_at (nat_cmp q) e.0 ≡ true → is_at (nat_cmp id) q ≡ a → a ≡ false
          not_at true at_e at_q = sym (sym other ∙ ap (λ n. is_at (nat_cmp n) e.0) (at_same id q at_q) ∙ at_e)
          not_at false at_e at_q = refl

          apart : (a : Bool) → is_at (nat_cmp q) e.0 ≡ a
              → cond a (Some e.1) (cond (is_at (nat_cmp id) q) (Some w) (at q es)) ≡ cond (is_at (nat_cmp id) q) (Some w) (cond a (Some e.1) (at q es))
          apart true at_e = sym (ap (λ t. cond t (Some w) (Some e.1)) (not_at (is_at (nat_cmp id) q) at_e refl))
          apart false at_e = refl

  keys_set : (id : ℕ) (w : X) (es : List (ℕ × X)) → keys_of (set_value (is_at (nat_cmp id)) es w) ≡ keys_of es
  keys_set id w [] = refl
  keys_set id w (e ∷ es) = go (is_at (nat_cmp id) e.0) (keys_set id w es)
    where
      go : (t : Bool) → keys_of (set_value (is_at (nat_cmp id)) es w) ≡ keys_of es → keys_of (cond t ((e.0, w) ∷ es) (e ∷ set_value (is_at (nat_cmp id)) es w)) ≡ e.0 ∷ keys_of es
      go true more = refl
      go false more = ap (λ ks. e.0 ∷ ks) more

  stays_none : (t : Bool) (o : Option X) → o ≡ None → o ≡ cond t None o
  stays_none true o none = none
  stays_none false o none = refl

  removed_at : (q id : ℕ) (es : List (ℕ × X)) → Rises es → at q (remove_entry (is_at (nat_cmp id)) es) ≡ cond (is_at (nat_cmp id) q) None (at q es)
  removed_at q id [] rises = stays_none (is_at (nat_cmp id) q) (at q []) refl
  removed_at q id (e ∷ es) rises = go (is_at (nat_cmp id) e.0) refl (removed_at q id es (sorted_tail nat_cmp e.0 (keys_of es) rises))
    where
      go : (t : Bool) → is_at (nat_cmp id) e.0 ≡ t → at q (remove_entry (is_at (nat_cmp id)) es) ≡ cond (is_at (nat_cmp id) q) None (at q es)
          → at q (cond t es (e ∷ remove_entry (is_at (nat_cmp id)) es)) ≡ cond (is_at (nat_cmp id) q) None (at q (e ∷ es))
      go true is more = pick (is_at (nat_cmp id) q) refl
        where
          pick : (a : Bool) → is_at (nat_cmp id) q ≡ a → at q es ≡ cond a None (at q (e ∷ es))
          pick true at_q =
              none_above q e.0 es (sorted_head nat_cmp e.0 (keys_of es) rises) (ap (is_at (nat_cmp q)) (sym (at_same id e.0 is)) ∙ turned q id ∙ at_q)
          pick false at_q =
              sym (ap (λ t. cond t (Some e.1) (at q es)) (ap (is_at (nat_cmp q)) (sym (at_same id e.0 is)) ∙ turned q id ∙ at_q))
      go false other more = ap (cond (is_at (nat_cmp q) e.0) (Some e.1)) more ∙ apart (is_at (nat_cmp q) e.0) refl
        where
          not_at : (a : Bool) → is_at (nat_cmp q) e.0 ≡ true → is_at (nat_cmp id) q ≡ a → a ≡ false
          not_at true at_e at_q = sym (sym other ∙ ap (λ n. is_at (nat_cmp n) e.0) (at_same id q at_q) ∙ at_e)
          not_at false at_e at_q = refl

          apart : (a : Bool) → is_at (nat_cmp q) e.0 ≡ a
              → cond a (Some e.1) (cond (is_at (nat_cmp id) q) None (at q es)) ≡ cond (is_at (nat_cmp id) q) None (cond a (Some e.1) (at q es))
          apart true at_e = sym (ap (λ t. cond t None (Some e.1)) (not_at (is_at (nat_cmp id) q) at_e refl))
          apart false at_e = refl

  above_removed : (k id : ℕ) (es : List (ℕ × X)) → Above k es → Above k (remove_entry (is_at (nat_cmp id)) es)
  above_removed k id [] above = tt
  above_removed k id (e ∷ es) above = go (is_at (nat_cmp id) e.0) (above_removed k id es above.1)
    where
      go : (t : Bool) → Above k (remove_entry (is_at (nat_cmp id)) es) → Above k (cond t es (e ∷ remove_entry (is_at (nat_cmp id)) es))
      go true more = above.1
      go false more = (above.0, more)

  remove_rises : (id : ℕ) (es : List (ℕ × X)) → Rises es → Rises (remove_entry (is_at (nat_cmp id)) es)
  unfolding IsStrictlySortedBy
  remove_rises id [] rises = tt
  remove_rises id (e ∷ es) rises = go (is_at (nat_cmp id) e.0) (remove_rises id es rises.1)
    where
      go : (t : Bool) → Rises (remove_entry (is_at (nat_cmp id)) es) → Rises (cond t es (e ∷ remove_entry (is_at (nat_cmp id)) es))
      go true more = rises.1
      go false more = (above_removed e.0 id es rises.0, more)

  -- ---- entries that rise are told by what is found in them

  module _ (old new : List (ℕ × X)) (id : ℕ) (old_rises : Rises old) (new_rises : Rises new) where
    then_inserted : (x : X) → ((q : ℕ) → at q new ≡ cond (is_at (nat_cmp id) q) (Some x) (at q old)) → new ≡ insert_entry nat_cmp old id x
    then_inserted x found =
        same_where_found new (insert_entry nat_cmp old id x) new_rises (insert_rises id x old old_rises)
        (λ q. found q ∙ ap (λ t. cond t (Some x) (at q old)) (turned id q) ∙ sym (inserted_at q id x old))

    then_removed : ((q : ℕ) → at q new ≡ cond (is_at (nat_cmp id) q) None (at q old)) → new ≡ remove_entry (is_at (nat_cmp id)) old
    then_removed found =
        same_where_found new (remove_entry (is_at (nat_cmp id)) old) new_rises (remove_rises id old old_rises) (λ q. found q ∙ sym (removed_at q id old old_rises))

    then_written : (w : X) → IsSome (at id old) → ((q : ℕ) → at q new ≡ cond (is_at (nat_cmp id) q) (Some w) (at q old)) → new ≡ set_value (is_at (nat_cmp id)) old w
    then_written w there found =
        same_where_found new (set_value (is_at (nat_cmp id)) old w) new_rises
        (subst (IsStrictlySortedBy nat_cmp) (sym (keys_set id w old)) old_rises) (λ q. found q ∙ sym (set_at q id w old there))

  -- where nothing is, nothing is taken
  pub absent_removed : (id : ℕ) (es : List (ℕ × X)) → IsStrictlySortedBy nat_cmp (keys_of es) → lookup (is_at (nat_cmp id)) es ≡ None → remove_entry (is_at (nat_cmp id)) es ≡ es
  absent_removed id es rises none = sym (then_removed es es id rises rises (λ q. go q (is_at (nat_cmp id) q) refl))
    where
      go : (q : ℕ) (t : Bool) → is_at (nat_cmp id) q ≡ t → at q es ≡ cond t None (at q es)
      go q true same = ap (λ k. at k es) (sym (at_same id q same)) ∙ none
      go q false other = refl

  -- what is found where one came, and where one went
  pub inserted_finds : (old new : List (ℕ × X)) (id : ℕ) (x : X) → new ≡ insert_entry nat_cmp old id x
      → (q : ℕ) → lookup (is_at (nat_cmp q)) new ≡ cond (is_at (nat_cmp id) q) (Some x) (lookup (is_at (nat_cmp q)) old)
  inserted_finds old new id x is q = ap (at q) is ∙ inserted_at q id x old ∙ ap (λ t. cond t (Some x) (at q old)) (turned q id)

  pub removed_finds : (old new : List (ℕ × X)) (id : ℕ) → IsStrictlySortedBy nat_cmp (keys_of old) → new ≡ remove_entry (is_at (nat_cmp id)) old
      → (q : ℕ) → lookup (is_at (nat_cmp q)) new ≡ cond (is_at (nat_cmp id) q) None (lookup (is_at (nat_cmp q)) old)
  removed_finds old new id rises is q = ap (at q) is ∙ removed_at q id old rises

-- ---- a part of what stands under each id

module _ {X Y : Type 0} (part : X → Option Y) where
  above_parts : (k : ℕ) (es : List (ℕ × X)) → Above k es → Above k (parts part es)
  above_parts k [] above = above
  above_parts k (e ∷ es) above = go (part e.1) (above_parts k es above.1)
    where
      go : (o : Option Y) → Above k (parts part es) → Above k (option_map_or (λ y. (e.0, y) ∷ parts part es) o (parts part es))
      go None more = more
      go (Some y) more = (above.0, more)

  parts_rise : (es : List (ℕ × X)) → Rises es → Rises (parts part es)
  unfolding IsStrictlySortedBy
  parts_rise [] rises = tt
  parts_rise (e ∷ es) rises = go (part e.1) (above_parts e.0 es rises.0) (parts_rise es rises.1)
    where
      go : (o : Option Y) → Above e.0 (parts part es) → Rises (parts part es) → Rises (option_map_or (λ y. (e.0, y) ∷ parts part es) o (parts part es))
      go None above more = more
      go (Some y) above more = (above, more)

  part_at : (q : ℕ) (es : List (ℕ × X)) → Rises es → at q (parts part es) ≡ option_and_then part (at q es)
  part_at q [] rises = refl
  part_at q (e ∷ es) rises = go (part e.1) refl (is_at (nat_cmp q) e.0) refl (part_at q es (sorted_tail nat_cmp e.0 (keys_of es) rises))
    where
      go : (o : Option Y) → part e.1 ≡ o → (t : Bool) → is_at (nat_cmp q) e.0 ≡ t → at q (parts part es) ≡ option_and_then part (at q es)
          → at q (option_map_or (λ y. (e.0, y) ∷ parts part es) o (parts part es)) ≡ option_and_then part (cond t (Some e.1) (at q es))
      go None has true here more =
          more ∙ ap (option_and_then part) (none_above q e.0 es (sorted_head nat_cmp e.0 (keys_of es) rises) here) ∙ sym has
      go None has false here more = more
      go (Some y) has true here more = ap (λ t. cond t (Some y) (at q (parts part es))) here ∙ sym has
      go (Some y) has false here more = ap (λ t. cond t (Some y) (at q (parts part es))) here ∙ more

  -- seen by rising ids, from entries in any order
  abbrev seen : List (ℕ × X) → List (ℕ × Y)
  seen es = parts part (by_id es)

  seen_rises : (es : List (ℕ × X)) → Rises (seen es)
  seen_rises es = parts_rise (by_id es) (by_id_rises es)

  pub seen_finds : (q : ℕ) (es : List (ℕ × X)) → lookup (is_at (nat_cmp q)) (parts part (by_id es)) ≡ option_and_then part (lookup (nat_eq q) es)
  seen_finds q es = part_at q (by_id es) (by_id_rises es) ∙ ap (option_and_then part) (by_id_finds q es)

  pub seen_rising : (es : List (ℕ × X)) → IsStrictlySortedBy nat_cmp (keys_of (parts part (by_id es)))
  seen_rising = seen_rises

  -- ---- what becomes of the parts where one entry changes

  module _ (old new : List (ℕ × X)) (id : ℕ) (w : Option X) (changed : (q : ℕ) → lookup (nat_eq q) new ≡ cond (nat_eq id q) w (lookup (nat_eq q) old)) where
    pub part_then : (o : Option Y) → option_and_then part w ≡ o
        → (q : ℕ) → option_and_then part (lookup (nat_eq q) new) ≡ cond (nat_eq id q) o (option_and_then part (lookup (nat_eq q) old))
    part_then o has q = ap (option_and_then part) (changed q) ∙ go (nat_eq id q)
      where
        go : (t : Bool) → option_and_then part (cond t w (lookup (nat_eq q) old)) ≡ cond t o (option_and_then part (lookup (nat_eq q) old))
        go true = has
        go false = refl

    seen_then : (o : Option Y) → option_and_then part w ≡ o → (q : ℕ) → at q (seen new) ≡ cond (is_at (nat_cmp id) q) o (at q (seen old))
    seen_then o has q =
        seen_finds q new ∙ part_then o has q ∙ ap (λ t. cond t o (option_and_then part (lookup (nat_eq q) old))) (equal_at id q)
        ∙ ap (λ x. cond (is_at (nat_cmp id) q) o x) (sym (seen_finds q old))

    pub seen_inserted : (y : Y) → option_and_then part w ≡ Some y → parts part (by_id new) ≡ insert_entry nat_cmp (parts part (by_id old)) id y
    seen_inserted y has = then_inserted (seen old) (seen new) id (seen_rises old) (seen_rises new) y (seen_then (Some y) has)

    pub seen_removed : option_and_then part w ≡ None → parts part (by_id new) ≡ remove_entry (is_at (nat_cmp id)) (parts part (by_id old))
    seen_removed has = then_removed (seen old) (seen new) id (seen_rises old) (seen_rises new) (seen_then None has)

    pub seen_written : (x y : Y) → option_and_then part (lookup (nat_eq id) old) ≡ Some x → option_and_then part w ≡ Some y
        → parts part (by_id new) ≡ set_value (is_at (nat_cmp id)) (parts part (by_id old)) y
    seen_written x y there has =
        then_written (seen old) (seen new) id (seen_rises old) (seen_rises new) y (subst IsSome (sym (seen_finds id old ∙ there)) refl) (seen_then (Some y) has)

    pub part_stays : option_and_then part w ≡ option_and_then part (lookup (nat_eq id) old)
        → (q : ℕ) → option_and_then part (lookup (nat_eq q) new) ≡ option_and_then part (lookup (nat_eq q) old)
    part_stays same q = part_then (option_and_then part (lookup (nat_eq id) old)) same q ∙ go (nat_eq id q) refl
      where
        go : (t : Bool) → nat_eq id q ≡ t
            → cond t (option_and_then part (lookup (nat_eq id) old)) (option_and_then part (lookup (nat_eq q) old)) ≡ option_and_then part (lookup (nat_eq q) old)
        go true is = ap (λ k. option_and_then part (lookup (nat_eq k) old)) (eqb-true id q is)
        go false is = refl

    pub seen_stays : option_and_then part w ≡ option_and_then part (lookup (nat_eq id) old) → parts part (by_id new) ≡ parts part (by_id old)
    seen_stays same =
        same_where_found (seen new) (seen old) (seen_rises new) (seen_rises old) (λ q. seen_finds q new ∙ part_stays same q ∙ sym (seen_finds q old))
