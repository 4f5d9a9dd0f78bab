-- Where a new object is to be, and what is there when it is, in the words of the machine.
use Rattle.std.specs.Prelude.{◌≡◌, ◌≢◌, ℕ, ◌<◌, Bool, true, List, ◌++◌, Option, None, Some, All, IsSome, MatchOption}
use Rattle.ob_model.specs.State.{State, insert_object, is_directory}
use Rattle.ob_model.specs.Paths.{found}
use Rattle.ob_model.specs.Creates as machine
use Rattle.ob_model.specs.Settle.{deleted_one}
use Rattle.ob_model.specs.Grants.{open_refusal_of, opened_body, opened_set, with_handle}
use Rattle.ob_model.specs.declared.terms.Reason.TheVariants.{Created}
use Rattle.ob_model.specs.Procedures.{Procedures}
use Rattle.ob_objects.specs.declared.object.StoredObject.{StoredObject}
use Rattle.ob_objects.specs.Store.{Entries, directory_at, entries_at, body_of_stored, objects_of, rows_of}
use Rattle.ob_objects.specs.Changes.{with_entry, with_name, without_name}
use Rattle.ob_space.specs.declared.placing.Spot.{Spot}

-- where a new object is to be
abbrev pub spot_of : Option Spot → machine.Spot
spot_of None = None
spot_of (Some spot) = Some (spot.directory, spot.name)

-- a name may be put there: the directory is there, and has no entry that a create would find in its
-- place, with the case of letters minded or not
abbrev pub IsVacant : {K T F I : Type 0} → State K T F I → ℕ → List ℕ → Type 0
IsVacant s directory name = (is_directory s directory ≡ true) × ((fold : Bool) × (found s directory name fold ≡ None))

-- the same of a spot, where one is given
abbrev pub IsVacantSpot : {K T F I : Type 0} → State K T F I → Option Spot → Type 0
IsVacantSpot s spot = MatchOption spot (Unit {0}) (λ at. IsVacant s at.directory at.name)

-- the same of a store: the directory of a spot is there, without that spelling, and the stamp is above
-- those of its entries
abbrev pub IsFreeSpot : {F I : Type 0} → Entries F I → ℕ → Option Spot → Type 0
IsFreeSpot store stamp spot =
    MatchOption spot (Unit {0})
    (λ at. IsSome (directory_at store at.directory) × All (λ e. e.name ≢ at.name) (entries_at store at.directory)
    × All (λ e. e.stamp < stamp) (entries_at store at.directory))

-- the store with an object more, and with its name, where a spot is given
abbrev pub with_placed : {F I : Type 0} → Entries F I → ℕ → ℕ → Option Spot → StoredObject F I → Entries F I
with_placed store id stamp None x = with_entry store id x
with_placed store id stamp (Some spot) x =
    with_name (with_entry store id x) spot.directory (record { stamp = stamp; name = spot.name; object = id })

-- the store without the name of a stamp in a directory, where one is given
abbrev pub without_name_in : {F I : Type 0} → Entries F I → Option ℕ → ℕ → Entries F I
without_name_in store None stamp = store
without_name_in store (Some directory) stamp = without_name store directory stamp

-- A store and the set's value after an object was put in under an id, at a spot or nowhere, and
-- the set opened it: the object is as the open left it, and its row is the last.
pub record IsOpened {K T F I : Type 0} (g : Procedures K T F I) (first : T) (old : Entries F I) (id stamp : ℕ) (spot : Option Spot) (x : StoredObject F I) (after : T) (left : Entries F I) : Type 0 where
  pub accepted : open_refusal_of g first (body_of_stored x.body) Created ≡ None
  pub objects : objects_of left
      ≡ insert_object (record { id = id; body = opened_body g first (body_of_stored x.body) Created; permanent = x.permanent; exclusive = x.exclusive }) (objects_of old)
  pub rows : rows_of left ≡ rows_of old ++ machine.new_rows (spot_of spot) stamp id
  pub set : after ≡ opened_set g first (body_of_stored x.body) Created

-- The same where the set refused to open it, with this number: the store is as it was, and the object
-- is deleted.
pub record IsTakenBack {K T F I : Type 0} (g : Procedures K T F I) (first : T) (old : Entries F I) (x : StoredObject F I) (code : ℕ) (after : T) (left : Entries F I) : Type 0 where
  pub refused : open_refusal_of g first (body_of_stored x.body) Created ≡ Some code
  pub store : left ≡ old
  pub set : after ≡ deleted_one g (body_of_stored x.body) first

-- the state with an object more, under the next id and as the set opened it, with its row and a handle of
-- a process to it
abbrev pub placed : {K T F I : Type 0} → Procedures K T F I → State K T F I → ℕ → machine.Spot → StoredObject F I → ℕ → Bool → State K T F I
placed g s p spot x value inherit =
    let body = body_of_stored x.body in
    let opened = record s { set = opened_set g s.set body Created } in
    let there = machine.with_object opened (opened_body g s.set body Created) x.permanent x.exclusive in
    with_handle (machine.with_row there spot s.next_id) p value s.next_id inherit
