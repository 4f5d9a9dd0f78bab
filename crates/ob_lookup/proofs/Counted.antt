-- How many names a store has after a change, told from what the change gives.
use Rattle.std.proofs.Common.{◌≡◌, ◌∙◌, ℕ, ◌+◌, ◌==◌, [], length, find, Option, None, Some, option_map, refl, ap, sym}
use Rattle.std.specs.Option.{option_map_or, option_and_then, unwrap_or}
use Rattle.ob_dirs.specs.declared.entry.DirEntry.{DirEntry}
use Rattle.ob_objects.specs.declared.object.StoredObject.{StoredObject}
use Rattle.ob_objects.specs.Store.{Entries, IsStore, stored_at, directory_of, entries_in, entries_at, rows_of}
use Rattle.ob_objects.specs.Changes.{without_name, without_object}
use Rattle.ob_objects.proofs.RowCounts.{count_without_name, count_without_object}
use Rattle.ob_objects.proofs.Stands.{none_goes}

-- the entry that was taken
taken_entry : (o : Option DirEntry) (object : ℕ) → option_map (λ e. e.object) o ≡ Some object → (e : DirEntry) × (o ≡ Some e)
taken_entry None object is = cc
taken_entry (Some e) object is = (e, refl)

no_entry : (o : Option DirEntry) → option_map (λ e. e.object) o ≡ None → o ≡ None
no_entry None is = refl
no_entry (Some e) is = cc

module _ {F I : Type 0} where
  abbrev pub count : Entries F I → ℕ
  count store = length (rows_of store)

  -- a name was taken
  pub count_taken : (store : Entries F I) → IsStore store → (d stamp : ℕ) (o : Option ℕ) (object : ℕ) → o ≡ option_map (λ (e : DirEntry). e.object) (find (λ (e : DirEntry). e.stamp == stamp) (entries_at store d))
      → o ≡ Some object → count (without_name store d stamp) + 1 ≡ count store
  count_taken store is d stamp o object gave some =
      let entry = taken_entry (find (λ (e : DirEntry). e.stamp == stamp) (entries_at store d)) object (sym gave ∙ some) in
      count_without_name store is d stamp entry.0 entry.1

  -- none was
  pub count_kept : (store : Entries F I) → IsStore store → (d stamp : ℕ) (o : Option ℕ) → o ≡ option_map (λ (e : DirEntry). e.object) (find (λ (e : DirEntry). e.stamp == stamp) (entries_at store d))
      → o ≡ None → count (without_name store d stamp) ≡ count store
  count_kept store is d stamp o gave none =
      ap length (none_goes store is d stamp (no_entry (find (λ (e : DirEntry). e.stamp == stamp) (entries_at store d)) (sym gave ∙ none)))

  abbrev names_in : Option (StoredObject F I) → ℕ
  names_in o = option_map_or (λ x. length (entries_in x.body)) o 0

  taken_names : (o : Option (StoredObject F I)) → names_in o ≡ length (unwrap_or (option_and_then (λ x. directory_of x.body) o) [])
  taken_names None = refl
  taken_names (Some x) = refl

  -- an object was taken, with what lay in it
  pub count_removed : (store : Entries F I) → IsStore store → (id : ℕ) (o : Option (StoredObject F I)) → o ≡ stored_at store id
      → count (without_object store id) + option_map_or (λ x. length (entries_in x.body)) o 0 ≡ count store
  count_removed store is id o gave =
      ap (λ (n : ℕ). count (without_object store id) + n) (taken_names o ∙ ap (λ x. length (unwrap_or (option_and_then (λ y. directory_of y.body) x) [])) gave)
      ∙ count_without_object store is id
