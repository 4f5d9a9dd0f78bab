-- Pages of a directory of a store: the entries that are left are those of the state, so what is told of the
-- directory is what the machine tells.
use Rattle.std.proofs.Common.{◌≡◌, ◌∙◌, ℕ, ◌==◌, ◌&&◌, nat_lt, Bool, List, [], ◌∷◌, ◌++◌, append_assoc, length, take, map, filter, Option, None, Some, refl, ap, sym}
use Rattle.std.specs.Option.{option_map, option_map_or, unwrap_or}
use Rattle.ob_model.specs.declared.entries.Listed.{Listed}
use Rattle.ob_model.specs.Enumeration.{Shown, listed, page_of, body_type_name, shown_row, entries_left, enumerated}
use Rattle.ob_model.specs.Enumeration.{Page as Told}
use Rattle.ob_model.specs.Procedures.{Procedures}
use Rattle.ob_model.specs.State.{State}
use Rattle.ob_dirs.specs.declared.entry.DirEntry.{DirEntry}
use Rattle.ob_dirs.specs.declared.page.DirPage.{DirPage}
use Rattle.ob_dirs.specs.Dir.{row_of}
use Rattle.ob_dirs.specs.Page.{IsPage, entries_behind, page_told, shown_entry}
use Rattle.ob_dirs.proofs.Rows.{filter_both, filter-map}
use Rattle.ob_dirs.proofs.Pages.{map_take, told_is_front}
use Rattle.ob_objects.specs.declared.object.StoredObject.{StoredObject}
use Rattle.ob_objects.specs.Store.{Entries, IsStore, Shows, stored_at, entries_at, directory_at, body_of_stored, object_of_stored, rows_of}
use Rattle.ob_objects.specs.Listing.{entry_listed, page_given, type_name_at}
use Rattle.ob_objects.proofs.Shown.{stored_is_object, rows_are_entries}

module _ {K T F I : Type 0} (g : Procedures K T F I) (s : State K T F I) (store : Entries F I) (is : IsStore store) (shows : Shows s store) where
  -- an entry is shown as its row is
  row_shown : (d : ℕ) (e : DirEntry) → shown_row g s (row_of d e) ≡ shown_entry (type_name_at g store) e
  row_shown d e =
      ap (λ name. record { stamp = e.stamp; name = e.name; type_name = name })
      (ap (λ o. option_map_or (body_type_name g) (option_map (λ x. x.body) o) []) (stored_is_object s store shows e.object) ∙ go (stored_at store e.object))
    where
      go : (o : Option (StoredObject F I))
          → option_map_or (body_type_name g) (option_map (λ x. x.body) (option_map (object_of_stored e.object) o)) []
          ≡ option_map_or (λ x. body_type_name g (body_of_stored x.body)) o []
      go None = refl
      go (Some x) = refl

  rows_shown : (d : ℕ) (es : List DirEntry) → map (shown_row g s) (map (row_of d) es) ≡ map (shown_entry (type_name_at g store)) es
  rows_shown d [] = refl
  rows_shown d (e ∷ es) = λ i. row_shown d e i ∷ rows_shown d es i

  -- the entries that are left in the state are those of the store
  left_is : (d context : ℕ) → entries_left g s d context ≡ map (shown_entry (type_name_at g store)) (entries_behind (entries_at store d) context)
  left_is d context =
      ap (map (shown_row g s))
      (ap (filter (λ r. (r.directory == d) && nat_lt context r.stamp)) shows.rows
      ∙ filter_both (λ r. r.directory == d) (λ r. nat_lt context r.stamp) (rows_of store)
      ∙ ap (filter (λ r. nat_lt context r.stamp)) (rows_are_entries store is d)
      ∙ filter-map (row_of d) (λ r. nat_lt context r.stamp) (entries_at store d))
      ∙ rows_shown d (entries_behind (entries_at store d) context)

  enumerated_is : (d context room : ℕ) (single : Bool) → enumerated g s d context room single ≡ page_told (type_name_at g store) (entries_at store d) context room single
  enumerated_is d context room single = ap (λ left. page_of left context room single) (left_is d context)

  -- what the machine tells of a directory of the store, and below of what is none
  pub directory_told : (d context room : ℕ) (single : Bool) (entries : List DirEntry) → Some entries ≡ directory_at store d
      → enumerated g s d context room single ≡ page_told (type_name_at g store) entries context room single
  directory_told d context room single entries there =
      enumerated_is d context room single
      ∙ ap (λ o. page_told (type_name_at g store) (unwrap_or o []) context room single) (sym there)

  -- where the machine tells no entry, none is told of the directory
  pub no_entry_told : (d context room : ℕ) (single : Bool) (entries : List DirEntry) → Some entries ≡ directory_at store d
      → (enumerated g s d context room single).entries ≡ [] → (page_told (type_name_at g store) entries context room single).entries ≡ []
  no_entry_told d context room single entries there none =
      sym (ap (λ (page : Told). page.entries) (directory_told d context room single entries there)) ∙ none

  pub no_directory_told : (d context room : ℕ) (single : Bool) → None ≡ directory_at store d → enumerated g s d context room single ≡ page_of [] context room single
  no_directory_told d context room single none =
      enumerated_is d context room single
      ∙ ap (λ o. page_told (type_name_at g store) (unwrap_or o []) context room single) (sym none)

-- what a store gives of a page
module _ {K T F I : Type 0} (g : Procedures K T F I) (store : Entries F I) where
  entries_listed : (es : List DirEntry) → map (entry_listed g store) es ≡ map listed (map (shown_entry (type_name_at g store)) es)
  entries_listed [] = refl
  entries_listed (e ∷ es) = ap (λ xs. record { name = e.name; type_name = type_name_at g store e.object } ∷ xs) (entries_listed es)

  -- a directory's page, with the names of types, is the one that is told
  pub given_is : (entries : List DirEntry) (context room : ℕ) (single : Bool) (page : DirPage) (items : List Listed)
      → IsPage (page_told (type_name_at g store) entries context room single) (entries_behind entries context) page
      → items ≡ map (entry_listed g store) page.entries
      → record { status = page.status; entries = items; context = page.context } ≡ page_given (page_told (type_name_at g store) entries context room single)
  given_is entries context room single page items is items_are =
      let told = page_told (type_name_at g store) entries context room single in
      let left = entries_behind entries context in
      let shown = map (shown_entry (type_name_at g store)) in
      let same : items ≡ map listed told.entries =
      items_are ∙ ap (map (entry_listed g store)) is.entries ∙ entries_listed (take (length told.entries) left)
      ∙ ap (map listed) (map_take (shown_entry (type_name_at g store)) (length told.entries) left ∙ sym (told_is_front (shown left) context room single)) in
      λ i. record { status = is.status i; entries = same i; context = is.context i }

  -- a page of which nothing is told gives no entry
  pub none_is_given : (entries : List DirEntry) (context room : ℕ) (single : Bool) (page : DirPage)
      → IsPage (page_told (type_name_at g store) entries context room single) (entries_behind entries context) page
      → (page_told (type_name_at g store) entries context room single).entries ≡ [] → page.entries ≡ []
  none_is_given entries context room single page is none =
      is.entries ∙ ap (λ (es : List Shown). take (length es) (entries_behind entries context)) none

-- ---- entries are told, one after another

pub listed_next : (f : DirEntry → Listed) (items new : List Listed) (x : Listed) (e : DirEntry) (left rest : List DirEntry) (all : List Listed)
    → new ≡ items ++ x ∷ [] → x ≡ f e → left ≡ e ∷ rest → items ++ map f left ≡ all → new ++ map f rest ≡ all
listed_next f items new x e left rest all pushed is first so_far =
    ap (λ xs. xs ++ map f rest) pushed ∙ append_assoc items (x ∷ []) (map f rest)
    ∙ ap (λ y. items ++ y ∷ map f rest) is ∙ ap (λ es. items ++ map f es) (sym first) ∙ so_far
