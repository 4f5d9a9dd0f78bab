-- What is told of an object at once is told of what is stored under its id, and of the rows.
use Rattle.std.proofs.Common.{◌≡◌, ◌∙◌, ℕ, ◌==◌, Bool, false, not, length, [], Option, None, Some, refl, ap}
use Rattle.std.specs.List.{list_any}
use Rattle.std.specs.Option.{option_map_or, option_and_then, unwrap_or}
use Rattle.ob_objects.specs.declared.named.EntryPlace.{EntryPlace}
use Rattle.ob_objects.specs.declared.object.StoredObject.{StoredObject}
use Rattle.ob_objects.specs.Standing.{standing_at}
use Rattle.ob_objects.specs.Store.{Entries, IsStore, stored_at, directory_of, entries_in, rows_of, place_at}
use Rattle.ob_objects.proofs.Follow.{told_of_object}
use Rattle.ob_objects.proofs.Searches.{holds_entries}

module _ {F I : Type 0} (store : Entries F I) (is : IsStore store) (id : ℕ) (o : Option (StoredObject F I)) (there : o ≡ stored_at store id) where
  -- whether entries lie in what is stored
  told_of_entries : option_map_or (λ x. not (length (entries_in x.body) == 0)) o false ≡ list_any (λ r. r.directory == id) (rows_of store)
  told_of_entries =
      go o ∙ ap (λ (x : Option (StoredObject F I)). not (length (unwrap_or (option_and_then (λ y. directory_of y.body) x) []) == 0)) there ∙ holds_entries store id is
    where
      go : (x : Option (StoredObject F I)) → option_map_or (λ y. not (length (entries_in y.body) == 0)) x false ≡ not (length (unwrap_or (option_and_then (λ y. directory_of y.body) x) []) == 0)
      go None = refl
      go (Some y) = refl

  pub standing_told : (permanent holds : Bool) (place : Option EntryPlace) → permanent ≡ option_map_or (λ x. x.permanent) o false → holds ≡ option_map_or (λ x. not (length (entries_in x.body) == 0)) o false → place ≡ place_at store id
      → record { permanent = permanent; holds_names = holds; place = place } ≡ standing_at store id
  standing_told permanent holds place is_permanent is_held stands =
      let permanence : permanent ≡ (standing_at store id).permanent = is_permanent ∙ told_of_object (λ x. x.permanent) store id o there in
      let held : holds ≡ (standing_at store id).holds_names = is_held ∙ told_of_entries in
      λ i. record { permanent = permanence i; holds_names = held i; place = stands i }
