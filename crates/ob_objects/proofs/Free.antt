-- Where the state finds nothing in a directory, a name may be put there.
use Rattle.std.proofs.Common.{◌≡◌, ◌≢◌, ◌∙◌, ℕ, ◌<◌, ◌==◌, Bool, true, false, cond, List, [], ◌∷◌, filter, map, Option, None, Some, option_map, All, IsSome, refl, ap, sym, subst, eq-eqb}
use Rattle.std.proofs.lemmas.Bool.{false≢true}
use Rattle.std.proofs.lemmas.List.Elements.{All-nil, All-cons, All-filter}
use Rattle.std.specs.Option.{option_and_then, option_map_or}
use Rattle.ob_model.specs.declared.state.Object.{Object}
use Rattle.ob_model.specs.Names.{same_name, same_byte, upper}
use Rattle.ob_model.specs.State.{is_directory_body}
use Rattle.ob_dirs.specs.declared.entry.DirEntry.{DirEntry}
use Rattle.ob_dirs.specs.Dir.{entry_found, earliest_entry, is_named, row_of}
use Rattle.ob_objects.specs.declared.object.StoredBody.{StoredBody}
use Rattle.ob_objects.specs.declared.object.StoredBody.TheVariants.{Directory, Link, Other}
use Rattle.ob_objects.specs.declared.object.StoredObject.{StoredObject}
use Rattle.ob_objects.specs.Store.{stored_at, directory_of, entries_at, body_of_stored, object_of_stored}
use Rattle.ob_objects.specs.Laws.{NameMayBeInserted}
use Rattle.ob_objects.proofs.Entries.{nothing_mapped}
use Rattle.ob_objects.proofs.Shown.{stored_is_object, store_finds, rows_are_entries}
use Rattle.ob_objects.proofs.Follow.{entries_of_rows}

-- a name is equal to itself, with fold and without
own_byte : (fold : Bool) (b : ℕ) → same_byte fold b b ≡ true
own_byte true b = eq-eqb (upper b) (upper b) refl
own_byte false b = eq-eqb b b refl

own_name : (fold : Bool) (name : List ℕ) → same_name fold name name ≡ true
own_name fold [] = refl
own_name fold (b ∷ name) = rw (own_byte fold b) (own_name fold name)

-- where nothing is found, no entry has the name
none_named : (es : List DirEntry) (name : List ℕ) (fold : Bool) → entry_found es name fold ≡ None → All (λ e. e.name ≢ name) es
none_named [] name fold none = All-nil (λ e. e.name ≢ name)
none_named (e ∷ es) name fold none = go (is_named name fold e) refl none (none_named es name fold)
  where
    go : (t : Bool) → is_named name fold e ≡ t
        → earliest_entry (cond t (e ∷ filter (is_named name fold) es) (filter (is_named name fold) es)) ≡ None
        → (entry_found es name fold ≡ None → All (λ x. x.name ≢ name) es) → All (λ x. x.name ≢ name) (e ∷ es)
    go true named none more = cc
    go false other none more =
        All-cons (λ x. x.name ≢ name) e es (λ same. false≢true (sym other ∙ ap (λ n. same_name fold n name) same ∙ own_name fold name)) (more none)

directory_stands : {F I : Type 0} (d : ℕ) (o : Option (StoredObject F I))
    → option_map_or is_directory_body (option_map (λ (x : Object F I). x.body) (option_map (object_of_stored d) o)) false ≡ true → IsSome (option_and_then (λ x. directory_of x.body) o)
directory_stands d None is = absurd (false≢true is)
directory_stands {F} {I} d (Some x) is = go x.body is
  where
    go : (body : StoredBody F I) → is_directory_body (body_of_stored body) ≡ true → IsSome (directory_of body)
    go (Directory entries shadow) is = refl
    go (Link target) is = absurd (false≢true is)
    go (Other face inner) is = absurd (false≢true is)

pub name_may_be_inserted : {K T F I : Type 0} → NameMayBeInserted K T F I
name_may_be_inserted {K} {T} {F} {I} s store is shows d name fold stamp there none newest =
    let below : All (λ r. r.stamp < stamp) (map (row_of d) (entries_at store d)) =
    subst (All (λ r. r.stamp < stamp)) (ap (filter (λ r. r.directory == d)) shows.rows ∙ rows_are_entries store is d)
    (All-filter (λ r. r.directory == d) (λ r. r.stamp < stamp) s.rows newest) in (
      directory_stands d (stored_at store d)
          (sym (ap (λ o. option_map_or is_directory_body (option_map (λ (x : Object F I). x.body) o) false) (stored_is_object s store shows d)) ∙ there),
      none_named (entries_at store d) name fold (nothing_mapped (row_of d) (entry_found (entries_at store d) name fold) (sym (store_finds s store is shows d name fold) ∙ none)),
      entries_of_rows (λ r. r.stamp < stamp) d (entries_at store d) below,
    )
