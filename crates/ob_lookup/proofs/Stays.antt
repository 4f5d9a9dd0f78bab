-- A closed store stays closed.
use Rattle.std.proofs.Common.{◌≡◌, ◌∙◌, ℕ, ◌==◌, Bool, true, false, cond, [], ◌∷◌, find, Option, None, Some, option_map, All, IsSome, refl, ap, sym, subst}
use Rattle.std.proofs.lemmas.Bool.{false≢true}
use Rattle.std.proofs.lemmas.List.Elements.{All-weaker, All-push}
use Rattle.std.specs.Option.{option_and_then, is_some, unwrap_or}
use Rattle.ob_model.specs.State.{root_id, shadow_in}
use Rattle.ob_dirs.specs.declared.entry.DirEntry.{DirEntry}
use Rattle.ob_dirs.specs.Dir.{row_of}
use Rattle.ob_objects.specs.declared.object.StoredBody.{StoredBody}
use Rattle.ob_objects.specs.declared.object.StoredBody.TheVariants.{Directory, Link, Other}
use Rattle.ob_objects.specs.declared.object.StoredObject.{StoredObject}
use Rattle.ob_objects.specs.Store.{Entries, stored_at, directory_of, directory_at, body_of_stored, rows_of}
use Rattle.ob_objects.specs.Changes.{with_entry, changed_at, body_with_name, with_name}
use Rattle.ob_objects.proofs.Entries.{stored_new, stored_other}
use Rattle.ob_objects.proofs.Shown.{new_object_has_no_row, new_name_is_last}
use Rattle.ob_lookup.specs.Closed.{ClosedWithObject, ClosedWithName}
use Rattle.ob_lookup.specs.Walk.{shadow_at}

-- what is there
some_of : {X : Type 0} (o : Option X) → IsSome o → (x : X) × (o ≡ Some x)
some_of None e = absurd (false≢true e)
some_of (Some x) e = (x, refl)

-- where a test of two says the same, one is there where the other is
some_from_test : {X : Type 0} (test : X → Bool) (a b : Option X) → option_map test a ≡ option_map test b → IsSome b → IsSome a
some_from_test test None None e there = there
some_from_test test None (Some y) e there = cc
some_from_test test (Some x) b e there = refl

module _ {F I : Type 0} where
  -- ---- an object more

  -- what was found still is
  pub found_with_object : (store : Entries F I) (id k : ℕ) (x y : StoredObject F I) → stored_at store id ≡ None
      → stored_at store k ≡ Some y → stored_at (with_entry store id x) k ≡ Some y
  found_with_object store id k x y free e = stored_other store id k x (λ same. some_is_not_none (sym e ∙ ap (stored_at store) same ∙ free)) ∙ e
    where
      some_is_not_none : Some y ≡ None → ⊥
      some_is_not_none bad = cc

  pub there_with_object : (store : Entries F I) (id k : ℕ) (x : StoredObject F I) → stored_at store id ≡ None
      → IsSome (stored_at store k) → IsSome (stored_at (with_entry store id x) k)
  there_with_object store id k x free there =
      let was = some_of (stored_at store k) there in
      ap is_some (found_with_object store id k x was.0 free was.1)

  -- the new object is there
  pub new_object_there : (store : Entries F I) (id : ℕ) (x : StoredObject F I) → stored_at store id ≡ None → IsSome (stored_at (with_entry store id x) id)
  new_object_there store id x free = ap is_some (stored_new store id x free)

  stored_from_directory : (o : Option (StoredObject F I)) → IsSome (option_and_then (λ y. directory_of y.body) o) → IsSome o
  stored_from_directory None e = e
  stored_from_directory (Some y) e = refl

  -- a directory has the entries that it had
  pub directory_with_object : (store : Entries F I) (id d : ℕ) (x : StoredObject F I) → stored_at store id ≡ None
      → IsSome (directory_at store d) → directory_at (with_entry store id x) d ≡ directory_at store d
  directory_with_object store id d x free there =
      let was = some_of (stored_at store d) (stored_from_directory (stored_at store d) there) in
      ap (option_and_then (λ (y : StoredObject F I). directory_of y.body)) (found_with_object store id d x was.0 free was.1 ∙ sym was.1)

  -- and its shadow
  pub shadow_with_object : (store : Entries F I) (id d : ℕ) (x : StoredObject F I) → stored_at store id ≡ None
      → IsSome (directory_at store d) → shadow_at (with_entry store id x) d ≡ shadow_at store d
  shadow_with_object store id d x free there =
      let was = some_of (stored_at store d) (stored_from_directory (stored_at store d) there) in
      ap (option_and_then (λ (y : StoredObject F I). shadow_in (body_of_stored y.body))) (found_with_object store id d x was.0 free was.1 ∙ sym was.1)

  pub closed_with_object : ClosedWithObject F I
  closed_with_object store id x closed free none = record {
    root = subst IsSome (sym (directory_with_object store id root_id x free closed.root)) closed.root;
    rows = subst (All (λ r. IsSome (stored_at (with_entry store id x) r.object))) (sym (new_object_has_no_row store id x none))
        (All-weaker (λ r. IsSome (stored_at store r.object)) (λ r. IsSome (stored_at (with_entry store id x) r.object)) (λ r there. there_with_object store id r.object x free there) (rows_of store) closed.rows);
  }

  -- ---- a name more

  -- a test that a change doesn't see says the same of what is found
  tested : {X : Type 0} (store : Entries F I) (id k : ℕ) (change : StoredObject F I → StoredObject F I) (test : StoredObject F I → X)
      → ((x : StoredObject F I) → test (change x) ≡ test x) → option_map test (stored_at (changed_at id change store) k) ≡ option_map test (stored_at store k)
  tested [] id k change test same = refl
  tested {X} (o ∷ store) id k change test same = go (o.0 == id) (o.0 == k) refl (tested store id k change test same)
    where
      go : (t u : Bool) → (o.0 == k) ≡ u → option_map test (stored_at (changed_at id change store) k) ≡ option_map test (stored_at store k)
          → option_map test (stored_at (cond t (o.0, change o.1) o ∷ changed_at id change store) k)
          ≡ option_map test (option_map (λ z. z.1) (cond u (Some o) (find (λ z. z.0 == k) store)))
      go true true e more = rw e (ap Some (same o.1))
      go true false e more = rw e more
      go false true e more = rw e refl
      go false false e more = rw e more

  pub there_with_name : (store : Entries F I) (d k : ℕ) (entry : DirEntry) → IsSome (stored_at store k) → IsSome (stored_at (with_name store d entry) k)
  there_with_name store d k entry there =
      some_from_test (λ x. true) (stored_at (with_name store d entry) k) (stored_at store k)
      (tested store d k (λ x. record x { body = body_with_name entry x.body }) (λ x. true) (λ x. refl)) there

  abbrev pub is_directory : StoredObject F I → Bool
  is_directory x = is_some (directory_of x.body)

  still_directory : (entry : DirEntry) (body : StoredBody F I) → is_some (directory_of (body_with_name entry body)) ≡ is_some (directory_of body)
  still_directory entry (Directory es shadow) = refl
  still_directory entry (Link target) = refl
  still_directory entry (Other face inner) = refl

  directory_by_test : (o : Option (StoredObject F I)) → is_some (option_and_then (λ x. directory_of x.body) o) ≡ unwrap_or (option_map is_directory o) false
  directory_by_test None = refl
  directory_by_test (Some x) = refl

  -- a change that leaves directories directories
  pub directory_changed : (store : Entries F I) (id k : ℕ) (change : StoredObject F I → StoredObject F I)
      → ((x : StoredObject F I) → is_directory (change x) ≡ is_directory x) → IsSome (directory_at store k) → IsSome (directory_at (changed_at id change store) k)
  directory_changed store id k change same there =
      directory_by_test (stored_at (changed_at id change store) k)
      ∙ ap (λ (o : Option Bool). unwrap_or o false) (tested store id k change is_directory same)
      ∙ sym (directory_by_test (stored_at store k)) ∙ there

  -- a change that leaves shadows
  pub shadow_changed : (store : Entries F I) (id k : ℕ) (change : StoredObject F I → StoredObject F I)
      → ((x : StoredObject F I) → shadow_in (body_of_stored (change x).body) ≡ shadow_in (body_of_stored x.body)) → shadow_at (changed_at id change store) k ≡ shadow_at store k
  shadow_changed store id k change same =
      shadow_by_test (stored_at (changed_at id change store) k)
      ∙ ap (λ (o : Option (Option ℕ)). unwrap_or o None) (tested store id k change (λ x. shadow_in (body_of_stored x.body)) same)
      ∙ sym (shadow_by_test (stored_at store k))
    where
      shadow_by_test : (o : Option (StoredObject F I)) → option_and_then (λ x. shadow_in (body_of_stored x.body)) o ≡ unwrap_or (option_map (λ x. shadow_in (body_of_stored x.body)) o) None
      shadow_by_test None = refl
      shadow_by_test (Some x) = refl

  still_shadow : (entry : DirEntry) (body : StoredBody F I) → shadow_in (body_of_stored (body_with_name entry body)) ≡ shadow_in (body_of_stored body)
  still_shadow entry (Directory es shadow) = refl
  still_shadow entry (Link target) = refl
  still_shadow entry (Other face inner) = refl

  pub shadow_with_name : (store : Entries F I) (d k : ℕ) (entry : DirEntry) → shadow_at (with_name store d entry) k ≡ shadow_at store k
  shadow_with_name store d k entry = shadow_changed store d k (λ x. record x { body = body_with_name entry x.body }) (λ x. still_shadow entry x.body)

  pub directory_with_name : (store : Entries F I) (d k : ℕ) (entry : DirEntry) → IsSome (directory_at store k) → IsSome (directory_at (with_name store d entry) k)
  directory_with_name store d k entry there =
      directory_changed store d k (λ x. record x { body = body_with_name entry x.body }) (λ x. still_directory entry x.body) there

  pub closed_with_name : ClosedWithName F I
  closed_with_name store d entry is closed there newest object = record {
    root = directory_with_name store d root_id entry closed.root;
    rows = subst (All (λ r. IsSome (stored_at (with_name store d entry) r.object))) (sym (new_name_is_last store d entry is there newest))
        (All-push (λ r. IsSome (stored_at (with_name store d entry) r.object)) (rows_of store) (row_of d entry)
        (All-weaker (λ r. IsSome (stored_at store r.object)) (λ r. IsSome (stored_at (with_name store d entry) r.object)) (λ r was. there_with_name store d r.object entry was) (rows_of store) closed.rows)
        (there_with_name store d entry.object entry object));
  }
