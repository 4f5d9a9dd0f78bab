-- A copy of an object shows what the object shows: all but the place in memory of its face, which both have in common.
--
-- Source: this profile.
use Rattle.std.specs.Prelude.{◌≡◌, ℕ, Bool, List, Option, map}
use Rattle.std.specs.Option.{option_map}
use Rattle.ob_model.specs.declared.state.Body.{Body}
use Rattle.ob_objects.specs.declared.named.EntryPlace.{EntryPlace}
use Rattle.ob_objects.specs.declared.object.StoredObject.{StoredObject}
use Rattle.ob_objects.specs.declared.slots.Slot.{Slot}
use Rattle.ob_objects.specs.Store.{Entries, NameEntry, body_of_stored, entries_in}

-- what an object shows: what it is in the abstract state, with the entries that lie in it
pub record Shown (F I : Type 0) : Type 0 where
  pub body : Body F I
  pub entries : List NameEntry
  pub permanent : Bool
  pub exclusive : Bool

module _ {F I : Type 0} where
  abbrev pub shown : StoredObject F I → Shown F I
  shown x = record { body = body_of_stored x.body; entries = entries_in x.body; permanent = x.permanent; exclusive = x.exclusive }

  -- what a slot shows: the object, and where the name is
  abbrev pub shown_slot : Slot F I → Option (Shown F I) × Option EntryPlace
  shown_slot slot = (option_map shown slot.object, slot.place)

  -- what all objects of a store show, under their ids
  abbrev pub all_shown : Entries F I → List (ℕ × Shown F I)
  all_shown store = map (λ e. (e.0, shown e.1)) store

  -- the copy of a store shows the same
  abbrev pub ShowsTheSame : Entries F I → Entries F I → Type 0
  ShowsTheSame store copy = all_shown copy ≡ all_shown store
