-- Pages of a directory of a store: what they show of its entries, with the names of the types of objects.
--
-- Sources: ZwQueryDirectoryObject (Windows Driver Kit) for the statuses and the context; that a context is a
-- stamp, and the size of an entry, are this profile.
use Rattle.std.specs.Prelude.{ℕ, List, [], map}
use Rattle.std.specs.Option.{option_map_or}
use Rattle.ob_model.specs.declared.entries.Listed.{Listed}
use Rattle.ob_model.specs.Enumeration.{body_type_name, listed}
use Rattle.ob_model.specs.Enumeration.{Page as Told}
use Rattle.ob_model.specs.Procedures.{Procedures}
use Rattle.ob_dirs.specs.declared.entry.DirEntry.{DirEntry}
use Rattle.ob_objects.specs.declared.listing.Page.{Page}
use Rattle.ob_objects.specs.Store.{Entries, stored_at, body_of_stored}

-- a page as a store gives it
abbrev pub page_given : Told → Page
page_given page = record { status = page.status; entries = map listed page.entries; context = page.context }

module _ {K T F I : Type 0} (g : Procedures K T F I) where
  -- the name of the type of an object of a store, and the empty text where there is none
  abbrev pub type_name_at : Entries F I → ℕ → List ℕ
  type_name_at store id = option_map_or (λ x. body_type_name g (body_of_stored x.body)) (stored_at store id) []

  -- an entry of a directory as a store gives it
  abbrev pub entry_listed : Entries F I → DirEntry → Listed
  entry_listed store e = record { name = e.name; type_name = type_name_at store e.object }
