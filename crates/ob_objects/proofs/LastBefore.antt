-- The object of greatest id below a bound, and that of least id from one on, by what a map has at each key.
use Rattle.std.proofs.Common.{◌≡◌, ◌∙◌, ℕ, ◌≤◌, ◌<◌, ◌==◌, Bool, true, false, cond, nat_le, List, [], ◌∷◌, find, Option, None, Some, option_map, All, IsSome, IfSome, slice_get, refl, ap, sym, subst, arith, leb-true, leb-false, eq-eqb}
use Rattle.std.proofs.lemmas.Bool.{false≢true}
use Rattle.std.proofs.lemmas.Bool.Decides.{nat_tests}
use Rattle.std.proofs.lemmas.List.Elements.{All-nil, All-cons, All-weaker}
use Rattle.std.specs.declared.cmp.Ordering.TheVariants.{Less}
use Rattle.std.specs.BTreeMap.{is_at}
use Rattle.std.specs.BTreeMap.Range.{IsLeBy}
use Rattle.std.specs.Map.{lookup}
use Rattle.std.specs.Option.{is_some}
use Rattle.std.specs.Ordering.{nat_cmp, is_lt}
use Rattle.ob_model.specs.declared.state.Object.{Object}
use Rattle.ob_model.specs.Procedures.{Procedures}
use Rattle.ob_objects.specs.declared.object.StoredObject.{StoredObject}
use Rattle.ob_objects.specs.Named.{IsLastBefore, IsFirstFrom}
use Rattle.ob_objects.specs.Store.{Entries, stored_at, object_of_stored, objects_of}
use Rattle.ob_objects.specs.Types.{Types, KeepsTypes, type_of_body}
use Rattle.ob_objects.proofs.Shown.{find_object}
use Rattle.ob_objects.proofs.Stands.{any_found}

-- an element is found by its own number
found_itself : {X : Type 0} (number : X → ℕ) (xs : List X) → All (λ x. is_some (find (λ y. number y == number x) xs) ≡ true) xs
found_itself number [] = All-nil (λ x. is_some (find (λ y. number y == number x) []) ≡ true)
found_itself number (x ∷ xs) =
    All-cons (λ z. is_some (find (λ y. number y == number z) (x ∷ xs)) ≡ true) x xs
    (ap (λ (t : Bool). is_some (cond t (Some x) (find (λ y. number y == number x) xs))) (eq-eqb (number x) (number x) refl))
    (All-weaker (λ z. is_some (find (λ y. number y == number z) xs) ≡ true) (λ z. is_some (find (λ y. number y == number z) (x ∷ xs)) ≡ true)
    (λ z there. go (number x == number z) (find (λ y. number y == number z) xs) there) xs (found_itself number xs))
  where
    go : (t : Bool) (o : Option _) → is_some o ≡ true → is_some (cond t (Some x) o) ≡ true
    go true o there = refl
    go false o there = there

not_before : (a b : ℕ) → is_lt (nat_cmp a b) ≡ false → b ≤ a
not_before a b e = grind (arith, nat_tests)

less_is : (a b : ℕ) → a < b → nat_cmp a b ≡ Less
less_is a b less = grind (arith, nat_tests)

less_means : (a b : ℕ) → nat_cmp a b ≡ Less → a < b
less_means a b e = grind (arith, nat_tests)

le_is : (a b : ℕ) → a ≤ b → IsLeBy nat_cmp a b
le_is a b le = grind (arith, nat_tests)

le_means : (a b : ℕ) → IsLeBy nat_cmp a b → a ≤ b
le_means a b e = grind (arith, nat_tests)

-- what holds of the first of a list, where that is known
pub first_of : {X : Type 0} (P : X → Type 0) (xs : List X) (x : X) (more : List X) → xs ≡ x ∷ more → IfSome (slice_get xs 0) P → P x
first_of P xs x more is = subst (λ ys. IfSome (slice_get ys 0) P) is

is_some_mapped : {X Y : Type 0} (f : X → Y) (o : Option X) → is_some (option_map f o) ≡ is_some o
is_some_mapped f None = refl
is_some_mapped f (Some x) = refl

-- something stands under the ids of the types that are kept, and under no other
pub types_stand : {K T F I : Type 0} (g : Procedures K T F I) (inside now : Entries F I) (types : Types K) → KeepsTypes g inside types → inside ≡ now
    → (q : ℕ) → is_some (lookup (is_at (nat_cmp q)) types) ≡ is_some (stored_at now q)
types_stand g inside now types keeps same q =
    ap is_some (keeps q) ∙ is_some_mapped (λ x. type_of_body g x.body) (stored_at inside q) ∙ ap (λ es. is_some (stored_at es q)) same

module _ {F I Y : Type 0} (kept : List (ℕ × Y)) (now : Entries F I) (stand : (q : ℕ) → is_some (lookup (is_at (nat_cmp q)) kept) ≡ is_some (stored_at now q)) (key id : ℕ) (is_id : key ≡ id) where
  there : All (λ o. is_some (stored_at now o.id) ≡ true) (objects_of now)
  there =
      All-weaker (λ (o : Object F I). is_some (find (λ (x : Object F I). x.id == o.id) (objects_of now)) ≡ true) (λ (o : Object F I). is_some (stored_at now o.id) ≡ true)
      (λ o found. mapped (stored_at now o.id) (object_of_stored o.id) (sym (ap is_some (find_object now o.id)) ∙ found)) (objects_of now) (found_itself (λ (o : Object F I). o.id) (objects_of now))
    where
      mapped : (x : Option (StoredObject F I)) (f : StoredObject F I → Object F I) → is_some (option_map f x) ≡ true → is_some x ≡ true
      mapped None f h = h
      mapped (Some x) f h = refl

  pub none_before : ((q : ℕ) → nat_cmp q key ≡ Less → lookup (is_at (nat_cmp q)) kept ≡ None) → IsLastBefore id (objects_of now) None
  none_before none =
      All-weaker (λ (o : Object F I). is_some (stored_at now o.id) ≡ true) (λ (o : Object F I). id ≤ o.id) (λ o found. go o found (nat_le id o.id) refl) (objects_of now) there
    where
      go : (o : Object F I) → is_some (stored_at now o.id) ≡ true → (t : Bool) → nat_le id o.id ≡ t → id ≤ o.id
      go o found true e = leb-true id o.id e
      go o found false e =
          let below : o.id < key = omega (arith, leb-false id o.id e, is_id) in
          absurd (false≢true (sym (sym (stand o.id) ∙ ap is_some (none o.id (less_is o.id key below))) ∙ found))

  pub one_before : (last : ℕ) (x : Y) → lookup (is_at (nat_cmp last)) kept ≡ Some x → nat_cmp last key ≡ Less
      → ((q : ℕ) → nat_cmp q key ≡ Less → IsSome (lookup (is_at (nat_cmp q)) kept) → is_lt (nat_cmp last q) ≡ false) → IsLastBefore id (objects_of now) (Some last)
  one_before last x found below greatest = (
    any_found (λ (o : Object F I). o.id == last) (objects_of now) ∙ ap is_some (find_object now last) ∙ is_some_mapped (object_of_stored last) (stored_at now last) ∙ sym (stand last) ∙ ap is_some found,
    subst (λ (n : ℕ). last < n) is_id (less_means last key below),
    All-weaker (λ (o : Object F I). is_some (stored_at now o.id) ≡ true) (λ (o : Object F I). o.id < id → o.id ≤ last)
        (λ o at less. not_before last o.id (greatest o.id (less_is o.id key (subst (λ (n : ℕ). o.id < n) (sym is_id) less)) (stand o.id ∙ at))) (objects_of now) there,
  )

  pub none_from : ((q : ℕ) → IsLeBy nat_cmp key q → lookup (is_at (nat_cmp q)) kept ≡ None) → IsFirstFrom id (objects_of now) None
  none_from none =
      All-weaker (λ (o : Object F I). is_some (stored_at now o.id) ≡ true) (λ (o : Object F I). o.id < id) (λ o found. go o found (nat_le id o.id) refl) (objects_of now) there
    where
      go : (o : Object F I) → is_some (stored_at now o.id) ≡ true → (t : Bool) → nat_le id o.id ≡ t → o.id < id
      go o found false e = leb-false id o.id e
      go o found true e =
          let from : key ≤ o.id = omega (arith, leb-true id o.id e, is_id) in
          absurd (false≢true (sym (sym (stand o.id) ∙ ap is_some (none o.id (le_is key o.id from))) ∙ found))

  pub one_from : (first : ℕ) (x : Y) → lookup (is_at (nat_cmp first)) kept ≡ Some x → IsLeBy nat_cmp key first
      → ((q : ℕ) → IsLeBy nat_cmp key q → IsSome (lookup (is_at (nat_cmp q)) kept) → IsLeBy nat_cmp first q) → IsFirstFrom id (objects_of now) (Some first)
  one_from first x found from least = (
    any_found (λ (o : Object F I). o.id == first) (objects_of now) ∙ ap is_some (find_object now first) ∙ is_some_mapped (object_of_stored first) (stored_at now first) ∙ sym (stand first) ∙ ap is_some found,
    subst (λ (n : ℕ). n ≤ first) is_id (le_means key first from),
    All-weaker (λ (o : Object F I). is_some (stored_at now o.id) ≡ true) (λ (o : Object F I). id ≤ o.id → first ≤ o.id)
        (λ o at more. le_means first o.id (least o.id (le_is key o.id (subst (λ (n : ℕ). n ≤ o.id) (sym is_id) more)) (stand o.id ∙ at))) (objects_of now) there,
  )
