-- Slots under ids: objects, and where the names for them are.
--
-- Source: this profile.
use Rattle.std.specs.Prelude.{◌≡◌, ℕ, ◌==◌, nat_eq, if◌then◌else◌, List, Option, None, Some, IsSome, OnSome, slice_get}
use Rattle.std.specs.BTreeMap.{is_at}
use Rattle.std.specs.Borrow.{Fml, RattleType, MutBor, LendsSo}
use Rattle.std.specs.Map.{lookup, set_value}
use Rattle.std.specs.Option.{option_and_then}
use Rattle.std.specs.Ordering.{nat_cmp}
use Rattle.indexmap.specs.IndexMap.{get}
use Rattle.ob_objects.specs.declared.named.EntryPlace.{EntryPlace}
use Rattle.ob_objects.specs.declared.object.StoredObject.{StoredObject}
use Rattle.ob_objects.specs.declared.slots.Slot.{Slot}
use Rattle.ob_objects.specs.declared.slots.Slots.{Slots}
use Rattle.ob_objects.specs.contracts.object.StoredObject.{the_row as object_row}
use Rattle.ob_objects.specs.contracts.slots.Slot.{the_row as slot_row}
use Rattle.ob_objects.specs.contracts.slots.Slots.{the_row}
use Rattle.ob_objects.specs.ById.{by_id, parts}
use Rattle.ob_objects.specs.Store.{Entries}

-- where what is under an id is: at this place of the list, and it is what is found there; none where nothing is
abbrev pub IsPlaceOf : {X : Type 0} → ℕ → List (ℕ × X) → Option ℕ → Type 0
IsPlaceOf id entries None = lookup (nat_eq id) entries ≡ None
IsPlaceOf {X} id entries (Some place) = (x : X) × (slice_get entries place ≡ Some (id, x)) × (lookup (nat_eq id) entries ≡ Some x)

module _ {F I : Type 0} where
  -- the objects, by rising ids
  abbrev pub objects_in : Slots F I → Entries F I
  objects_in slots = parts (λ slot. slot.object) (by_id slots.map.entries)

  -- the object of an id, and where the name for it is
  abbrev pub object_in : Slots F I → ℕ → Option (StoredObject F I)
  object_in slots id = option_and_then (λ slot. slot.object) (get nat_eq slots.map id)

  abbrev pub place_in : Slots F I → ℕ → Option EntryPlace
  place_in slots id = option_and_then (λ slot. slot.place) (get nat_eq slots.map id)

  -- each place that was kept still is, and no other
  abbrev pub KeepPlaces : Slots F I → Slots F I → Type 0
  KeepPlaces old new = (id : ℕ) → place_in new id ≡ place_in old id

  -- no slot is empty
  abbrev pub AreFilled : Slots F I → Type 0
  AreFilled slots = (id : ℕ) → object_in slots id ≡ None → place_in slots id ≡ None → get nat_eq slots.map id ≡ None

  abbrev pub StayFilled : Slots F I → Slots F I → Type 0
  StayFilled old new = AreFilled old → AreFilled new

  -- the object of an id is written over, and nothing else changes
  pub record IsWritten (old : Slots F I) (id : ℕ) (x : StoredObject F I) (new : Slots F I) : Type 0 where
    pub objects : objects_in new ≡ set_value (is_at (nat_cmp id)) (objects_in old) x
    pub places : KeepPlaces old new
    pub filled : StayFilled old new

  -- the slot of an id is written over, and every other stays
  abbrev pub IsSlotWritten : Slots F I → ℕ → Slot F I → Slots F I → Type 0
  IsSlotWritten old id slot new = (other : ℕ) → get nat_eq new.map other ≡ (if id == other then Some slot else get nat_eq old.map other)

  -- nothing changes
  pub record IsSame (old new : Slots F I) : Type 0 where
    pub objects : objects_in new ≡ objects_in old
    pub places : KeepPlaces old new
    pub filled : StayFilled old new

module _ (F I : RattleType) where
  -- the object of an id ends as the last value written through what is lent, and nothing else changes
  abbrev pub LendsObject : MutBor (Slots F.Denot I.Denot) → ℕ → Option (MutBor (StoredObject F.Denot I.Denot)) → Fml
  LendsObject slots id r =
      LendsSo (the_row F I) (object_row F I) slots r
      (λ new w. OnSome r (IsWritten slots.now id w new)) (IsSame slots.now)

  -- the slot of an id ends as the last value written through what is lent, and every other stays
  abbrev pub LendsSlot : MutBor (Slots F.Denot I.Denot) → ℕ → Option (MutBor (Slot F.Denot I.Denot)) → Fml
  LendsSlot slots id r =
      LendsSo (the_row F I) (slot_row F I) slots r
      (λ new w. IsSome (get nat_eq slots.now.map id) → IsSlotWritten slots.now id w new) (λ new. new.map ≡ slots.now.map)
