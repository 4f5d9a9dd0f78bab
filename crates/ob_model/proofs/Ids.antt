-- Entries under ids that differ: what a map's search, its change and its removal make of them.
use Rattle.std.proofs.Common.{◌≡◌, ◌∙◌, ℕ, ◌<◌, ◌==◌, Bool, true, false, not, cond, List, [], ◌∷◌, ◌++◌, filter, find, map, None, Some, option_map, All, refl, ap, sym, arith, eqb-true}
use Rattle.std.proofs.lemmas.Bool.Decides.{nat_tests}
use Rattle.std.proofs.lemmas.List.Elements.{All-nil, All-cons, All-head, All-tail, All-weaker}
use Rattle.std.proofs.lemmas.Map.Keys.{sorted_head, sorted_tail}
use Rattle.std.specs.BTreeMap.{is_at, insert_entry}
use Rattle.std.specs.Cmp.{nat_cmp_is}
use Rattle.std.specs.declared.cmp.Ordering.TheVariants.{Less, Greater}
use Rattle.std.specs.List.{AllByRecursion}
use Rattle.std.specs.List.Sorted.{IsStrictlySortedBy}
use Rattle.std.specs.Map.{keys_of, lookup, remove_entry, set_value}
use Rattle.std.specs.Ordering.{nat_cmp, match_ordering}
use Rattle.ob_model.proofs.Finds.{filter_all}

-- the ids of these entries differ, said one entry at a time
abbrev pub Differ : {X : Type 0} → List (ℕ × X) → Type 0
Differ [] = Unit {0}
Differ (e ∷ es) = All (λ x. (x.0 == e.0) ≡ false) es × Differ es

-- ---- ids that rise differ

less_is_other : (k y : ℕ) → nat_cmp k y ≡ Less → (y == k) ≡ false
less_is_other k y e = grind (arith, nat_tests)

others_behind : {X : Type 0} (k : ℕ) (es : List (ℕ × X)) → AllByRecursion (λ y. nat_cmp k y ≡ Less) (keys_of es) → All (λ x. (x.0 == k) ≡ false) es
others_behind k [] behind = All-nil (λ x. (x.0 == k) ≡ false)
others_behind k (e ∷ es) behind = All-cons (λ x. (x.0 == k) ≡ false) e es (less_is_other k e.0 behind.0) (others_behind k es behind.1)

pub Differ-from_rising : {X : Type 0} (es : List (ℕ × X)) → IsStrictlySortedBy nat_cmp (keys_of es) → Differ es
Differ-from_rising [] rising = tt
Differ-from_rising (e ∷ es) rising = (others_behind e.0 es (sorted_head nat_cmp e.0 (keys_of es) rising), Differ-from_rising es (sorted_tail nat_cmp e.0 (keys_of es) rising))

-- ---- what a map does

-- the test of a search is the equality of ids
pub is_at-id : (id k : ℕ) → is_at (nat_cmp id) k ≡ (k == id)
is_at-id id k = grind (arith, nat_tests)

pub lookup-id : {X : Type 0} (id : ℕ) (es : List (ℕ × X)) → lookup (is_at (nat_cmp id)) es ≡ option_map (λ e. e.1) (find (λ e. e.0 == id) es)
lookup-id id [] = refl
lookup-id {X} id (e ∷ es) = ap (λ t. cond t (Some e.1) (lookup (is_at (nat_cmp id)) es)) (is_at-id id e.0) ∙ go (e.0 == id) (lookup-id id es)
  where
    go : (t : Bool) → lookup (is_at (nat_cmp id)) es ≡ option_map (λ x. x.1) (find (λ x. x.0 == id) es)
        → cond t (Some e.1) (lookup (is_at (nat_cmp id)) es) ≡ option_map (λ x. x.1) (cond t (Some e) (find (λ x. x.0 == id) es))
    go true more = refl
    go false more = more

-- an id above all others comes last
pub insert_entry-last : {X : Type 0} (id : ℕ) (value : X) (es : List (ℕ × X)) → All (λ e. e.0 < id) es → insert_entry nat_cmp es id value ≡ es ++ (id, value) ∷ []
insert_entry-last id value [] below = refl
insert_entry-last id value (e ∷ es) below =
    ap (λ r. match_ordering r ((id, value) ∷ e ∷ es) ((e.0, value) ∷ es) (e ∷ insert_entry nat_cmp es id value)) (sym (nat_cmp_is id e.0 Greater (All-head (λ x. x.0 < id) e es below)))
    ∙ ap (λ xs. e ∷ xs) (insert_entry-last id value es (All-tail (λ x. x.0 < id) e es below))

-- where ids differ, one removal leaves those of other ids
pub remove_entry-id : {X : Type 0} (id : ℕ) (es : List (ℕ × X)) → Differ es → remove_entry (is_at (nat_cmp id)) es ≡ filter (λ e. not (e.0 == id)) es
remove_entry-id id [] differ = refl
remove_entry-id {X} id (e ∷ es) differ =
    ap (λ t. cond t es (e ∷ remove_entry (is_at (nat_cmp id)) es)) (is_at-id id e.0) ∙ go (e.0 == id) refl (remove_entry-id id es differ.1)
  where
    stays : e.0 ≡ id → (x : ℕ × X) → (x.0 == e.0) ≡ false → not (x.0 == id) ≡ true
    stays same x other = ap (λ k. not (x.0 == k)) (sym same) ∙ ap not other

    go : (t : Bool) → (e.0 == id) ≡ t → remove_entry (is_at (nat_cmp id)) es ≡ filter (λ (x : ℕ × X). not (x.0 == id)) es
        → cond t es (e ∷ remove_entry (is_at (nat_cmp id)) es) ≡ cond (not t) (e ∷ filter (λ (x : ℕ × X). not (x.0 == id)) es) (filter (λ (x : ℕ × X). not (x.0 == id)) es)
    go true here more =
        sym (filter_all (λ (x : ℕ × X). not (x.0 == id)) es
        (All-weaker (λ (x : ℕ × X). (x.0 == e.0) ≡ false) (λ (x : ℕ × X). not (x.0 == id) ≡ true) (stays (eqb-true e.0 id here)) es differ.0))
    go false there more = ap (λ xs. e ∷ xs) more

-- the entries with the value of one id changed
abbrev pub changed : {X : Type 0} → ℕ → (X → X) → List (ℕ × X) → List (ℕ × X)
changed id change es = map (λ e. cond (e.0 == id) (e.0, change e.1) e) es

-- where no entry has the id, nothing changes
pub changed-none : {X : Type 0} (id : ℕ) (change : X → X) (es : List (ℕ × X)) → All (λ x. (x.0 == id) ≡ false) es → changed id change es ≡ es
changed-none id change [] none = refl
changed-none id change (e ∷ es) none =
    ap (λ t. cond t (e.0, change e.1) e ∷ changed id change es) (All-head (λ x. (x.0 == id) ≡ false) e es none)
    ∙ ap (λ xs. e ∷ xs) (changed-none id change es (All-tail (λ x. (x.0 == id) ≡ false) e es none))

pub changed-absent : {X : Type 0} (id : ℕ) (change : X → X) (es : List (ℕ × X)) → lookup (is_at (nat_cmp id)) es ≡ None → changed id change es ≡ es
changed-absent id change [] none = refl
changed-absent {X} id change (e ∷ es) none =
    go (e.0 == id) (ap (λ t. cond t (Some e.1) (lookup (is_at (nat_cmp id)) es)) (sym (is_at-id id e.0)) ∙ none) (changed-absent id change es)
  where
    go : (t : Bool) → cond t (Some e.1) (lookup (is_at (nat_cmp id)) es) ≡ None → (lookup (is_at (nat_cmp id)) es ≡ None → changed id change es ≡ es)
        → cond t (e.0, change e.1) e ∷ changed id change es ≡ e ∷ es
    go true none more = cc
    go false none more = ap (λ xs. e ∷ xs) (more none)

-- where ids differ, a value written over the one that was found is that change
pub set_value-id : {X : Type 0} (id : ℕ) (change : X → X) (es : List (ℕ × X)) (x : X) → Differ es → lookup (is_at (nat_cmp id)) es ≡ Some x
    → set_value (is_at (nat_cmp id)) es (change x) ≡ changed id change es
set_value-id id change [] x differ at = cc
set_value-id {X} id change (e ∷ es) x differ at =
    ap (λ t. cond t ((e.0, change x) ∷ es) (e ∷ set_value (is_at (nat_cmp id)) es (change x))) (is_at-id id e.0)
    ∙ go (e.0 == id) refl (ap (λ t. cond t (Some e.1) (lookup (is_at (nat_cmp id)) es)) (sym (is_at-id id e.0)) ∙ at) (set_value-id id change es x differ.1)
  where
    go : (t : Bool) → (e.0 == id) ≡ t → cond t (Some e.1) (lookup (is_at (nat_cmp id)) es) ≡ Some x
        → (lookup (is_at (nat_cmp id)) es ≡ Some x → set_value (is_at (nat_cmp id)) es (change x) ≡ changed id change es)
        → cond t ((e.0, change x) ∷ es) (e ∷ set_value (is_at (nat_cmp id)) es (change x)) ≡ cond t (e.0, change e.1) e ∷ changed id change es
    go true here found more =
        let same : e.1 ≡ x = cc in
        ap (λ y. (e.0, change y) ∷ es) (sym same)
        ∙ ap (λ xs. (e.0, change e.1) ∷ xs) (sym (changed-none id change es (rw (sym (eqb-true e.0 id here)) differ.0)))
    go false there found more = ap (λ xs. e ∷ xs) (more found)
