-- How the counts of shadows follow the types that are kept.
use Rattle.std.proofs.Common.{◌≡◌, ◌∙◌, ℕ, ◌+◌, ◌<◌, ◌≤◌, ◌^◌, ◌||◌, Bool, true, false, cond, [], ◌∷◌, length, Option, None, Some, option_map, IfSome, refl, ap, sym, subst, arith, nat_lt}
use Rattle.std.specs.Prelude.{count_by}
use Rattle.std.specs.Cmp.{nat_cmp_total}
use Rattle.std.proofs.lemmas.Bool.Decides.{nat_tests}
use Rattle.std.proofs.lemmas.List.Sums.{count_by-le-length, sum_by-cons}
use Rattle.std.proofs.lemmas.Map.Entries.{length-values_of, sum_by-insert_entry, sum_by-remove_entry}
use Rattle.std.specs.BTreeMap.{is_at, insert_entry}
use Rattle.std.specs.List.{list_any}
use Rattle.std.specs.List.Sorted.{IsStrictlySortedBy}
use Rattle.std.specs.Map.{keys_of, values_of, lookup, remove_entry}
use Rattle.std.specs.Option.{unwrap_or}
use Rattle.std.specs.Ordering.{nat_cmp}
use Rattle.ob_model.specs.Procedures.{Procedures}
use Rattle.ob_model.specs.Settle.{has_shadow}
use Rattle.ob_model.specs.State.{greatest_number, shadow_in}
use Rattle.ob_handles.specs.Counts.{Numbers, count_of}
use Rattle.ob_objects.specs.declared.object.StoredBody.{StoredBody}
use Rattle.ob_objects.specs.declared.object.StoredBody.TheVariants.{Directory, Link, Other}
use Rattle.ob_objects.specs.declared.object.StoredObject.{StoredObject}
use Rattle.ob_objects.specs.declared.slots.Slots.{Slots}
use Rattle.ob_objects.specs.declared.types.StoredType.{StoredType}
use Rattle.ob_objects.specs.Kept.{Keeps}
use Rattle.ob_objects.specs.Slots.{objects_in, object_in}
use Rattle.ob_objects.specs.Store.{Entries, body_of_stored, objects_of, stored_at}
use Rattle.ob_objects.specs.Types.{Types, KeepsTypes, type_of_body}
use Rattle.ob_objects.specs.Shadows.{is_this, shadow_of_type, CountsMore, CountsLess, CountsShadows}
use Rattle.ob_objects.proofs.ById.{same_where_found}
use Rattle.ob_objects.proofs.KeptTypes.{typed, types_are}
use Rattle.ob_objects.proofs.KeptSlots.{object_stored}

module _ {K : Type 0} where
  -- what a type counts of an object
  abbrev weigh : ℕ → StoredType K → ℕ
  weigh o t = cond (is_this o (shadow_of_type t)) 1 0

  -- where there is nothing
  pub none_counted : (types : Types K) (counts : Numbers) → types ≡ [] → counts ≡ [] → CountsShadows types counts
  none_counted types counts no_types no_counts o =
      ap (λ (ns : Numbers). count_of ns o) no_counts ∙ sym (ap (λ (ts : Types K). count_by (λ t. is_this o (shadow_of_type t)) (values_of ts)) no_types)

  -- a directory comes
  pub counted_more : (types more : Types K) (id : ℕ) (t : StoredType K) (old new : Numbers) → CountsShadows types old → CountsMore (shadow_of_type t) old new → IsStrictlySortedBy nat_cmp (keys_of types)
      → lookup (is_at (nat_cmp id)) types ≡ None → more ≡ insert_entry nat_cmp types id t → CountsShadows more new
  counted_more types more id t old new counts grew rising free put o =
      let sum = sum_by-insert_entry (weigh o) nat_cmp_total types id t rising in
      let none : unwrap_or (option_map (weigh o) (lookup (is_at (nat_cmp id)) types)) 0 ≡ 0 = ap (λ l. unwrap_or (option_map (weigh o) l) 0) free in
      let same : count_by (λ t. is_this o (shadow_of_type t)) (values_of more) ≡ count_by (λ t. is_this o (shadow_of_type t)) (values_of (insert_entry nat_cmp types id t)) =
      ap (λ (m : Types K). count_by (λ t. is_this o (shadow_of_type t)) (values_of m)) put in
      omega (arith, sum, none, same, counts o, grew o)

  -- a directory goes
  pub counted_less : (types less : Types K) (id : ℕ) (t : StoredType K) (old new : Numbers) → CountsShadows types old → CountsLess (shadow_of_type t) old new → lookup (is_at (nat_cmp id)) types ≡ Some t
      → less ≡ remove_entry (is_at (nat_cmp id)) types → CountsShadows less new
  counted_less types less id t old new counts shrank there taken o =
      let sum = sum_by-remove_entry (weigh o) (is_at (nat_cmp id)) types in
      let one : unwrap_or (option_map (weigh o) (lookup (is_at (nat_cmp id)) types)) 0 ≡ weigh o t = ap (λ l. unwrap_or (option_map (weigh o) l) 0) there in
      let same : count_by (λ t. is_this o (shadow_of_type t)) (values_of less) ≡ count_by (λ t. is_this o (shadow_of_type t)) (values_of (remove_entry (is_at (nat_cmp id)) types)) =
      ap (λ (m : Types K). count_by (λ t. is_this o (shadow_of_type t)) (values_of m)) taken in
      omega (arith, sum, one, same, counts o, shrank o)

  -- a directory that was counted is counted no more
  pub counted_back : (types : Types K) (shadow : Option ℕ) (old mid new : Numbers) → CountsShadows types old → CountsMore shadow old mid → CountsLess shadow mid new → CountsShadows types new
  counted_back types shadow old mid new counts grew shrank o = omega (arith, counts o, grew o, shrank o)

  -- no object is counted too often to be counted once more
  few_counted : (types : Types K) (counts : Numbers) (o n : ℕ) → CountsShadows types counts → n ≡ length types → n < 2 ^ 63 → count_of counts o ≤ greatest_number
  few_counted types counts o n are is few =
      omega (arith, are o, count_by-le-length (λ t. is_this o (shadow_of_type t)) (values_of types), length-values_of types, is, few)

  pub few_of_shadow : (types : Types K) (counts : Numbers) (shadow : Option ℕ) (n : ℕ) → CountsShadows types counts → n ≡ length types → n < 2 ^ 63 → IfSome shadow (λ o. count_of counts o ≤ greatest_number)
  few_of_shadow types counts None n are is few = tt
  few_of_shadow types counts (Some o) n are is few = few_counted types counts o n are is few

  -- what came and went again leaves all as it was
  pub taken_back : (types mid back : Types K) (key : ℕ) (t : StoredType K) → IsStrictlySortedBy nat_cmp (keys_of types) → IsStrictlySortedBy nat_cmp (keys_of back) → lookup (is_at (nat_cmp key)) types ≡ None
      → ((q : ℕ) → lookup (is_at (nat_cmp q)) mid ≡ cond (is_at (nat_cmp key) q) (Some t) (lookup (is_at (nat_cmp q)) types))
      → ((q : ℕ) → lookup (is_at (nat_cmp q)) back ≡ cond (is_at (nat_cmp key) q) None (lookup (is_at (nat_cmp q)) mid)) → back ≡ types
  taken_back types mid back key t rise back_rise free put taken =
      same_where_found back types back_rise rise (λ q. taken q ∙ ap (cond (is_at (nat_cmp key) q) None) (put q) ∙ go q (is_at (nat_cmp key) q) refl)
    where
      at_same : (q : ℕ) → is_at (nat_cmp key) q ≡ true → key ≡ q
      at_same q e = grind (arith, nat_tests)

      go : (q : ℕ) (b : Bool) → is_at (nat_cmp key) q ≡ b → cond b None (cond b (Some t) (lookup (is_at (nat_cmp q)) types)) ≡ lookup (is_at (nat_cmp q)) types
      go q true same = sym (ap (λ k. lookup (is_at (nat_cmp k)) types) (sym (at_same q same)) ∙ free)
      go q false other = refl

module _ {K T F I : Type 0} (g : Procedures K T F I) where
  -- an object is a directory's shadow where its type says so
  same_shadow : (o : ℕ) (body : StoredBody F I) → is_this o (shadow_of_type (type_of_body g body)) ≡ has_shadow o (body_of_stored body)
  same_shadow o (Directory entries shadow) = refl
  same_shadow o (Link target) = refl
  same_shadow o (Other face inner) = refl

  counted_there : (o : ℕ) (store : Entries F I) → nat_lt 0 (count_by (λ t. is_this o (shadow_of_type t)) (values_of (typed g store))) ≡ list_any (λ x. has_shadow o x.body) (objects_of store)
  counted_there o [] = refl
  counted_there o (e ∷ store) =
      ap (nat_lt 0) (sum_by-cons (λ (t : StoredType K). cond (is_this o (shadow_of_type t)) 1 0) (type_of_body g e.1.body) (values_of (typed g store)))
      ∙ go (is_this o (shadow_of_type (type_of_body g e.1.body))) (counted_there o store)
      ∙ ap (λ b. b || list_any (λ x. has_shadow o x.body) (objects_of store)) (same_shadow o e.1.body)
    where
      rest : ℕ
      rest = count_by (λ t. is_this o (shadow_of_type t)) (values_of (typed g store))

      go : (b : Bool) → nat_lt 0 rest ≡ list_any (λ x. has_shadow o x.body) (objects_of store) → nat_lt 0 (cond b 1 0 + rest) ≡ (b || list_any (λ x. has_shadow o x.body) (objects_of store))
      go true more = positive rest
        where
          positive : (n : ℕ) → nat_lt 0 (1 + n) ≡ true
          positive n = grind (arith, nat_tests)
      go false more = ap (nat_lt 0) (none rest) ∙ more
        where
          none : (n : ℕ) → 0 + n ≡ n
          none n = omega arith

  -- the shadow of an object is that of its type
  shadow_typed : (body : StoredBody F I) → shadow_in (body_of_stored body) ≡ shadow_of_type (type_of_body g body)
  shadow_typed (Directory entries shadow) = refl
  shadow_typed (Link target) = refl
  shadow_typed (Other face inner) = refl

  -- where no object is, no type is kept
  pub free_type : (store now : Entries F I) (types : Types K) (id key : ℕ) → KeepsTypes g store types → store ≡ now → stored_at now id ≡ None → key ≡ id → lookup (is_at (nat_cmp key)) types ≡ None
  free_type store now types id key keeps same free is =
      ap (λ k. lookup (is_at (nat_cmp k)) types) is ∙ keeps id ∙ ap (option_map (λ (x : StoredObject F I). type_of_body g x.body)) (ap (λ es. stored_at es id) same ∙ free)

  -- an object comes, or goes
  pub came_counted : (types more : Types K) (key : ℕ) (body : StoredBody F I) (t : StoredType K) (old new : Numbers) → CountsShadows types old → CountsMore (shadow_in (body_of_stored body)) old new
      → IsStrictlySortedBy nat_cmp (keys_of types) → lookup (is_at (nat_cmp key)) types ≡ None → more ≡ insert_entry nat_cmp types key t → t ≡ type_of_body g body
      → CountsShadows more new
  came_counted types more key body t old new counts grew rising free put is_type =
      counted_more types more key t old new counts (subst (λ s. CountsMore s old new) (shadow_typed body ∙ ap shadow_of_type (sym is_type)) grew) rising free put

  pub went_counted : (slots : Slots F I) (types less : Types K) (id key : ℕ) (x : StoredObject F I) (old new : Numbers) → Keeps g slots types → CountsShadows types old → CountsLess (shadow_in (body_of_stored x.body)) old new
      → object_in slots id ≡ Some x → less ≡ remove_entry (is_at (nat_cmp key)) types → key ≡ id → CountsShadows less new
  went_counted slots types less id key x old new keeps counts shrank found taken at =
      counted_less types less key (type_of_body g x.body) old new counts (subst (λ s. CountsLess s old new) (shadow_typed x.body) shrank)
      (ap (λ k. lookup (is_at (nat_cmp k)) types) at ∙ keeps.types id
      ∙ ap (option_map (λ (y : StoredObject F I). type_of_body g y.body)) (sym (object_stored slots (objects_in slots) id refl) ∙ found)) taken

  -- an object is a shadow where it is counted
  pub is_counted : (store now : Entries F I) (types : Types K) (shadows : Numbers) (o count : ℕ) → KeepsTypes g store types → IsStrictlySortedBy nat_cmp (keys_of store) → IsStrictlySortedBy nat_cmp (keys_of types)
      → CountsShadows types shadows → store ≡ now → count ≡ count_of shadows o → nat_lt 0 count ≡ list_any (λ x. has_shadow o x.body) (objects_of now)
  is_counted store now types shadows o count keeps rising types_rise counts same is =
      ap (nat_lt 0) (is ∙ counts o ∙ ap (λ (ts : Types K). count_by (λ t. is_this o (shadow_of_type t)) (values_of ts)) (types_are g store types keeps rising types_rise))
      ∙ counted_there o store ∙ ap (λ es. list_any (λ x. has_shadow o x.body) (objects_of es)) same
