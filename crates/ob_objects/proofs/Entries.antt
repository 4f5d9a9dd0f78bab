-- A store with an object more, under an id that is free: what is stored then, and that it is a store.
use Rattle.std.proofs.Common.{◌≡◌, ◌≢◌, ◌∙◌, ℕ, ◌==◌, Bool, true, false, cond, nat_lt, List, [], ◌∷◌, find, Option, None, Some, option_map, All, refl, ap, sym, arith, eq-eqb}
use Rattle.std.proofs.lemmas.Bool.{ne_eqb}
use Rattle.std.proofs.lemmas.Bool.Decides.{nat_tests}
use Rattle.std.proofs.lemmas.List.Elements.{All-head, All-tail}
use Rattle.std.proofs.lemmas.Map.Keys.{sorted_head, sorted_tail}
use Rattle.std.specs.BTreeMap.{insert_entry}
use Rattle.std.specs.declared.cmp.Ordering.TheVariants.{Less, Greater}
use Rattle.std.specs.List.{AllByRecursion}
use Rattle.std.specs.List.Sorted.{IsStrictlySortedBy}
use Rattle.std.specs.Map.{keys_of}
use Rattle.std.specs.Ordering.{nat_cmp, match_ordering}
use Rattle.ob_model.specs.State.{in_order}
use Rattle.ob_model.proofs.Finds.{not_found}
use Rattle.ob_model.proofs.InOrder.{in_order-finds, in_order-others, in_order-All}
use Rattle.ob_dirs.specs.Dir.{IsDir}
use Rattle.ob_objects.specs.declared.object.StoredObject.{StoredObject}
use Rattle.ob_objects.specs.Store.{Entries, stored_at, entries_in}
use Rattle.ob_objects.specs.Changes.{with_entry}

-- ---- numbers

less_is_less : (k y : ℕ) → nat_lt k y ≡ true → nat_cmp k y ≡ Less
less_is_less k y e = grind (arith, nat_tests)

other_is_greater : (k y : ℕ) → nat_lt k y ≡ false → (y == k) ≡ false → nat_cmp k y ≡ Greater
other_is_greater k y e other = grind (arith, nat_tests)

other_is_less : (k y : ℕ) → nat_lt k y ≡ false → (y == k) ≡ false → nat_cmp y k ≡ Less
other_is_less k y e other = grind (arith, nat_tests)

less_is_passed_on : (k y z : ℕ) → nat_cmp k y ≡ Less → nat_cmp y z ≡ Less → nat_cmp k z ≡ Less
less_is_passed_on k y z first second = grind (arith, nat_tests)

-- what is above one is above what is below that
keys_passed_on : (k y : ℕ) (ks : List ℕ) → nat_cmp k y ≡ Less → AllByRecursion (λ z. nat_cmp y z ≡ Less) ks → AllByRecursion (λ z. nat_cmp k z ≡ Less) ks
keys_passed_on k y [] first above = tt
keys_passed_on k y (z ∷ ks) first above = (less_is_passed_on k y z first above.0, keys_passed_on k y ks first above.1)

pub nothing_mapped : {X Y : Type 0} (f : X → Y) (o : Option X) → option_map f o ≡ None → o ≡ None
nothing_mapped f None e = refl
nothing_mapped f (Some x) e = cc

-- no entry has the id
abbrev pub IsFreeId : {X : Type 0} → ℕ → List (ℕ × X) → Type 0
IsFreeId {X} id es = All (λ (e : ℕ × X). (e.0 == id) ≡ false) es

-- what a map makes of an entry more, where no entry has its id
pub insert_entry-in_order : {X : Type 0} (id : ℕ) (value : X) (es : List (ℕ × X)) → IsFreeId id es → insert_entry nat_cmp es id value ≡ in_order (λ e. e.0) (id, value) es
insert_entry-in_order id value [] free = refl
insert_entry-in_order {X} id value (e ∷ es) free =
    go (nat_lt id e.0) refl (All-head (λ (x : ℕ × X). (x.0 == id) ≡ false) e es free)
    (insert_entry-in_order id value es (All-tail (λ (x : ℕ × X). (x.0 == id) ≡ false) e es free))
  where
    inserted : List (ℕ × X)
    inserted = insert_entry nat_cmp es id value

    go : (t : Bool) → nat_lt id e.0 ≡ t → (e.0 == id) ≡ false → inserted ≡ in_order (λ x. x.0) (id, value) es
        → match_ordering (nat_cmp id e.0) ((id, value) ∷ e ∷ es) ((e.0, value) ∷ es) (e ∷ inserted) ≡ cond t ((id, value) ∷ e ∷ es) (e ∷ in_order (λ x. x.0) (id, value) es)
    go true less other more = ap (λ r. match_ordering r ((id, value) ∷ e ∷ es) ((e.0, value) ∷ es) (e ∷ inserted)) (less_is_less id e.0 less)
    go false less other more =
        ap (λ r. match_ordering r ((id, value) ∷ e ∷ es) ((e.0, value) ∷ es) (e ∷ inserted)) (other_is_greater id e.0 less other)
        ∙ ap (λ xs. e ∷ xs) more

module _ {F I : Type 0} where
  pub stored_free : (store : Entries F I) (id : ℕ) → stored_at store id ≡ None → IsFreeId id store
  stored_free store id free = not_found (λ e. e.0 == id) store (nothing_mapped (λ (e : ℕ × StoredObject F I). e.1) (find (λ e. e.0 == id) store) free)

  -- the new object is stored under its id, and what was stored under another still is
  pub stored_new : (store : Entries F I) (id : ℕ) (x : StoredObject F I) → stored_at store id ≡ None → stored_at (with_entry store id x) id ≡ Some x
  stored_new store id x free =
      ap (option_map (λ (e : ℕ × StoredObject F I). e.1)) (in_order-finds (λ e. e.0) (λ e. e.0 == id) (id, x) store (eq-eqb id id refl) (stored_free store id free))

  pub stored_other : (store : Entries F I) (id other : ℕ) (x : StoredObject F I) → other ≢ id → stored_at (with_entry store id x) other ≡ stored_at store other
  stored_other store id other x differ =
      ap (option_map (λ (e : ℕ × StoredObject F I). e.1)) (in_order-others (λ e. e.0) (λ e. e.0 == other) (id, x) store (ne_eqb id other (λ same. differ (sym same))))

  -- ---- ids that rise still do

  keys_above : (k id : ℕ) (x : StoredObject F I) (store : Entries F I) → nat_cmp k id ≡ Less → AllByRecursion (λ y. nat_cmp k y ≡ Less) (keys_of store)
      → AllByRecursion (λ y. nat_cmp k y ≡ Less) (keys_of (with_entry store id x))
  keys_above k id x [] below above = (below, tt)
  keys_above k id x (e ∷ store) below above = go (nat_lt id e.0) (keys_above k id x store below above.1)
    where
      go : (t : Bool) → AllByRecursion (λ y. nat_cmp k y ≡ Less) (keys_of (with_entry store id x))
          → AllByRecursion (λ y. nat_cmp k y ≡ Less) (keys_of (cond t ((id, x) ∷ e ∷ store) (e ∷ with_entry store id x)))
      go true more = (below, above)
      go false more = (above.0, more)

  keys_rise : (store : Entries F I) (id : ℕ) (x : StoredObject F I) → IsFreeId id store
      → IsStrictlySortedBy nat_cmp (keys_of store) → IsStrictlySortedBy nat_cmp (keys_of (with_entry store id x))
  unfolding IsStrictlySortedBy
  keys_rise [] id x free rising = (tt, tt)
  keys_rise (e ∷ store) id x free rising =
      go (nat_lt id e.0) refl (All-head (λ (y : ℕ × StoredObject F I). (y.0 == id) ≡ false) e store free)
      (keys_rise store id x (All-tail (λ (y : ℕ × StoredObject F I). (y.0 == id) ≡ false) e store free) (sorted_tail nat_cmp e.0 (keys_of store) rising))
    where
      above : AllByRecursion (λ y. nat_cmp e.0 y ≡ Less) (keys_of store)
      above = sorted_head nat_cmp e.0 (keys_of store) rising

      go : (t : Bool) → nat_lt id e.0 ≡ t → (e.0 == id) ≡ false → IsStrictlySortedBy nat_cmp (keys_of (with_entry store id x))
          → IsStrictlySortedBy nat_cmp (keys_of (cond t ((id, x) ∷ e ∷ store) (e ∷ with_entry store id x)))
      go true less other more = ((less_is_less id e.0 less, keys_passed_on id e.0 (keys_of store) (less_is_less id e.0 less) above), rising)
      go false less other more = (keys_above e.0 id x store (other_is_less id e.0 less other) above, more)

  pub rising_with_entry : (store : Entries F I) (id : ℕ) (x : StoredObject F I) → stored_at store id ≡ None
      → IsStrictlySortedBy nat_cmp (keys_of store) → IsStrictlySortedBy nat_cmp (keys_of (with_entry store id x))
  rising_with_entry store id x free rising = keys_rise store id x (stored_free store id free) rising

  -- the directories of a store and of an object more are directories
  pub directories_with_entry : (store : Entries F I) (id : ℕ) (x : StoredObject F I) → IsDir (entries_in x.body) → All (λ e. IsDir (entries_in e.1.body)) store
      → All (λ e. IsDir (entries_in e.1.body)) (with_entry store id x)
  directories_with_entry store id x dir all = in_order-All (λ e. e.0) (λ e. IsDir (entries_in e.1.body)) (id, x) store dir all
