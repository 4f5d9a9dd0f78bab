-- A store that changes, beside a cache that stays: each prefix leads where it led.
use Rattle.std.proofs.Common.{◌≡◌, ◌∙◌, ℕ, ◌==◌, Bool, true, false, cond, not, List, [], ◌∷◌, filter, find, map, Option, None, Some, option_map, IsSome, Result, Ok, Err, IfOk, OnErr, refl, ap, sym, subst, eqb-true, eq-eqb}
use Rattle.std.proofs.lemmas.Bool.{false≢true}
use Rattle.std.specs.Option.{option_and_then, is_some, unwrap_or}
use Rattle.ob_model.specs.declared.state.Row.{Row}
use Rattle.ob_model.specs.declared.terms.Reason.{Reason}
use Rattle.ob_model.specs.Procedures.{Procedures}
use Rattle.ob_dirs.specs.Dir.{row_of}
use Rattle.ob_objects.specs.declared.object.StoredBody.{StoredBody}
use Rattle.ob_objects.specs.declared.object.StoredBody.TheVariants.{Directory, Link, Other}
use Rattle.ob_objects.specs.declared.object.StoredObject.{StoredObject}
use Rattle.ob_objects.specs.Store.{Entries, NameEntry, IsStore, stored_at, directory_of, directory_at, body_of_stored, entries_in, entries_at, rows_of}
use Rattle.ob_objects.specs.Changes.{with_entry, without_object, with_permanence, with_opened, with_closed, stored_opened, stored_closed}
use Rattle.ob_objects.specs.Rows.{by_stamp}
use Rattle.ob_objects.proofs.Shown.{new_object_has_no_row, rows_are_entries, rows_go_with_directory, same_rows}
use Rattle.ob_prefixes.specs.Cache.{Kept}
use Rattle.ob_lookup.specs.Prefixes.{ArePaths}
use Rattle.ob_lookup.proofs.Kept.{paths_stay}
use Rattle.ob_model.specs.State.{shadow_in}
use Rattle.ob_lookup.specs.Walk.{shadow_at}
use Rattle.ob_lookup.proofs.Stays.{directory_with_object, shadow_with_object, directory_changed, shadow_changed}

-- where nothing passes a test, what doesn't pass it is all
none_pass : {X : Type 0} (test : X → Bool) (xs : List X) → filter test xs ≡ [] → filter (λ x. not (test x)) xs ≡ xs
none_pass test [] none = refl
none_pass {X = X} test (x ∷ xs) none = go (test x) none (none_pass test xs)
  where
    go : (t : Bool) → cond t (x ∷ filter test xs) (filter test xs) ≡ [] → (filter test xs ≡ [] → filter (λ y. not (test y)) xs ≡ xs)
        → cond (not t) (x ∷ filter (λ y. not (test y)) xs) (filter (λ y. not (test y)) xs) ≡ x ∷ xs
    go true none more = cc
    go false none more = ap (λ ys. x ∷ ys) (more none)

module _ {F I : Type 0} where
  -- ---- an object that goes, and is no directory

  others_stay : (store : Entries F I) (id k : ℕ) → (k == id) ≡ false → stored_at (without_object store id) k ≡ stored_at store k
  others_stay [] id k differ = refl
  others_stay (e ∷ store) id k differ = go (e.0 == id) (e.0 == k) refl refl (others_stay store id k differ)
    where
      go : (t u : Bool) → (e.0 == id) ≡ t → (e.0 == k) ≡ u → stored_at (without_object store id) k ≡ stored_at store k
          → option_map (λ z. z.1) (find (λ z. z.0 == k) (cond (not t) (e ∷ without_object store id) (without_object store id)))
          ≡ option_map (λ z. z.1) (cond u (Some e) (find (λ z. z.0 == k) store))
      go true true here there more =
          absurd (false≢true (sym differ ∙ eq-eqb k id (sym (eqb-true e.0 k there) ∙ eqb-true e.0 id here)))
      go true false here there more = more
      go false true here there more = rw there refl
      go false false here there more = rw there more

  directory_stays : (store : Entries F I) (id k : ℕ) → is_some (directory_at store id) ≡ false → IsSome (directory_at store k)
      → IsSome (directory_at (without_object store id) k) × (shadow_at (without_object store id) k ≡ shadow_at store k)
  directory_stays store id k none there = go (k == id) refl
    where
      go : (t : Bool) → (k == id) ≡ t → IsSome (directory_at (without_object store id) k) × (shadow_at (without_object store id) k ≡ shadow_at store k)
      go true same = absurd (false≢true (sym none ∙ ap (λ (x : ℕ). is_some (directory_at store x)) (sym (eqb-true k id same)) ∙ there))
      go false differ = (
        ap (λ (o : Option (StoredObject F I)). is_some (option_and_then (λ x. directory_of x.body) o)) (others_stay store id k differ) ∙ there,
        ap (option_and_then (λ (x : StoredObject F I). shadow_in (body_of_stored x.body))) (others_stay store id k differ),
      )

  no_entries : (store : Entries F I) (id : ℕ) → is_some (directory_at store id) ≡ false → entries_at store id ≡ []
  no_entries store id none = go (directory_at store id) none
    where
      go : (o : Option (List NameEntry)) → is_some o ≡ false → unwrap_or o [] ≡ []
      go None e = refl
      go (Some es) e = cc

  rows_stay : (store : Entries F I) (id : ℕ) → IsStore store → is_some (directory_at store id) ≡ false → rows_of (without_object store id) ≡ rows_of store
  rows_stay store id is none =
      rows_go_with_directory store id
      ∙ none_pass (λ (r : Row). r.directory == id) (rows_of store) (rows_are_entries store is id ∙ ap (λ es. map (row_of id) es) (no_entries store id none))

  -- ---- an object that changes, and stays what it is

  opened_entries : {K T : Type 0} (g : Procedures K T F I) (set : T) (reason : Reason) (body : StoredBody F I)
      → entries_in (stored_opened g set reason body) ≡ entries_in body × (is_some (directory_of (stored_opened g set reason body)) ≡ is_some (directory_of body))
  opened_entries g set reason (Directory es shadow) = (refl, refl)
  opened_entries g set reason (Link target) = (refl, refl)
  opened_entries g set reason (Other face inner) = (refl, refl)

  closed_entries : {K T : Type 0} (g : Procedures K T F I) (set : T) (process_left system_left : ℕ) (body : StoredBody F I)
      → entries_in (stored_closed g set process_left system_left body) ≡ entries_in body
      × (is_some (directory_of (stored_closed g set process_left system_left body)) ≡ is_some (directory_of body))
  closed_entries g set process_left system_left (Directory es shadow) = (refl, refl)
  closed_entries g set process_left system_left (Link target) = (refl, refl)
  closed_entries g set process_left system_left (Other face inner) = (refl, refl)

  opened_shadow : {K T : Type 0} (g : Procedures K T F I) (set : T) (reason : Reason) (body : StoredBody F I)
      → shadow_in (body_of_stored (stored_opened g set reason body)) ≡ shadow_in (body_of_stored body)
  opened_shadow g set reason (Directory es shadow) = refl
  opened_shadow g set reason (Link target) = refl
  opened_shadow g set reason (Other face inner) = refl

  closed_shadow : {K T : Type 0} (g : Procedures K T F I) (set : T) (process_left system_left : ℕ) (body : StoredBody F I)
      → shadow_in (body_of_stored (stored_closed g set process_left system_left body)) ≡ shadow_in (body_of_stored body)
  closed_shadow g set process_left system_left (Directory es shadow) = refl
  closed_shadow g set process_left system_left (Link target) = refl
  closed_shadow g set process_left system_left (Other face inner) = refl

-- what holds of the store behind either end of an insertion holds of what there is then
pub of_insertion : {X E S : Type 0} (P : S → Type 0) (r : Result X E) (put before new : S) → IfOk r (λ x. new ≡ put) → OnErr r (new ≡ before) → P put → P before → P new
of_insertion P (Ok x) put before new ok err done kept = subst P (sym ok) done
of_insertion P (Err e) put before new ok err done kept = subst P (sym err) kept

module _ {K T F I : Type 0} (store : Entries F I) (cache : Kept) (are : ArePaths K T F I store cache) where
  pub paths_with_entry : (id : ℕ) (x : StoredObject F I) → stored_at store id ≡ None → entries_in x.body ≡ [] → ArePaths K T F I (with_entry store id x) cache
  paths_with_entry id x free none =
      paths_stay store cache are (with_entry store id x) (new_object_has_no_row store id x none)
      (λ d there. (ap is_some (directory_with_object store id d x free there) ∙ there, shadow_with_object store id d x free there))

  pub paths_without_object : (id : ℕ) → IsStore store → is_some (directory_at store id) ≡ false → ArePaths K T F I (without_object store id) cache
  paths_without_object id is none = paths_stay store cache are (without_object store id) (rows_stay store id is none) (λ d there. directory_stays store id d none there)

  pub paths_with_permanence : (id : ℕ) (permanent : Bool) → ArePaths K T F I (with_permanence store id permanent) cache
  paths_with_permanence id permanent =
      paths_stay store cache are (with_permanence store id permanent)
      (ap by_stamp (same_rows store id (λ x. record x { permanent = permanent }) (λ x. refl)))
      (λ d there. (
        directory_changed store id d (λ x. record x { permanent = permanent }) (λ x. refl) there,
        shadow_changed store id d (λ x. record x { permanent = permanent }) (λ x. refl),
      ))

  pub paths_opened : (g : Procedures K T F I) (set : T) (id : ℕ) (reason : Reason) → ArePaths K T F I (with_opened g store set id reason) cache
  paths_opened g set id reason =
      paths_stay store cache are (with_opened g store set id reason)
      (ap by_stamp (same_rows store id (λ x. record x { body = stored_opened g set reason x.body }) (λ x. (opened_entries g set reason x.body).0)))
      (λ d there. (
        directory_changed store id d (λ x. record x { body = stored_opened g set reason x.body }) (λ x. (opened_entries g set reason x.body).1) there,
        shadow_changed store id d (λ x. record x { body = stored_opened g set reason x.body }) (λ x. opened_shadow g set reason x.body),
      ))

  pub paths_closed : (g : Procedures K T F I) (set : T) (id process_left system_left : ℕ) → ArePaths K T F I (with_closed g store set id process_left system_left) cache
  paths_closed g set id process_left system_left =
      paths_stay store cache are (with_closed g store set id process_left system_left)
      (ap by_stamp (same_rows store id (λ x. record x { body = stored_closed g set process_left system_left x.body }) (λ x. (closed_entries g set process_left system_left x.body).0)))
      (λ d there. (
        directory_changed store id d (λ x. record x { body = stored_closed g set process_left system_left x.body }) (λ x. (closed_entries g set process_left system_left x.body).1) there,
        shadow_changed store id d (λ x. record x { body = stored_closed g set process_left system_left x.body }) (λ x. closed_shadow g set process_left system_left x.body),
      ))
