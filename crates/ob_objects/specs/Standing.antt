-- The facts that decide whether an object stays.
--
-- Source: Windows Internals, Object Manager (object retention; temporary and permanent objects).
use Rattle.std.specs.Prelude.{ℕ, ◌==◌, List, false}
use Rattle.std.specs.List.{find, list_any}
use Rattle.std.specs.Option.{option_map, option_map_or}
use Rattle.ob_model.specs.declared.state.Object.{Object}
use Rattle.ob_model.specs.declared.state.Row.{Row}
use Rattle.ob_objects.specs.declared.standing.Standing.{Standing}
use Rattle.ob_objects.specs.Named.{place_of}
use Rattle.ob_objects.specs.Store.{Entries, objects_of, rows_of}

module _ {F I : Type 0} where
  -- whether an object among these is permanent, whether a row is in it, and where the row that names it is
  abbrev pub standing_among : List (Object F I) → List Row → ℕ → Standing
  standing_among objects rows id = record {
    permanent = option_map_or (λ x. x.permanent) (find (λ x. x.id == id) objects) false;
    holds_names = list_any (λ r. r.directory == id) rows;
    place = option_map place_of (find (λ r. r.object == id) rows);
  }

  -- the same of the objects and the rows of a store
  abbrev pub standing_at : Entries F I → ℕ → Standing
  standing_at store id = standing_among (objects_of store) (rows_of store) id
