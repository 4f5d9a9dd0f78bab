-- The facts that a store keeps beside its objects: where the names for them are, and their types.
--
-- Source: this profile.
use Rattle.std.specs.Prelude.{◌≡◌, ℕ, Option}
use Rattle.ob_model.specs.Procedures.{Procedures}
use Rattle.ob_objects.specs.declared.named.EntryPlace.{EntryPlace}
use Rattle.ob_objects.specs.declared.slots.Slots.{Slots}
use Rattle.ob_objects.specs.Slots.{objects_in, place_in, AreFilled}
use Rattle.ob_objects.specs.Store.{Entries, IsStore, place_at}
use Rattle.ob_objects.specs.Types.{Types, KeepsTypes}

module _ {F I : Type 0} where
  -- what holds of a store beside the places that it keeps: for each object that where its name is
  pub record KeepsPlaces (store : Entries F I) (kept : ℕ → Option EntryPlace) : Type 0 where
    pub is_store : IsStore store
    pub places : (id : ℕ) → kept id ≡ place_at store id

module _ {K T F I : Type 0} (g : Procedures K T F I) where
  -- what holds of the slots of a store and of the types that it keeps beside them
  pub record Keeps (slots : Slots F I) (kept : Types K) : Type 0 where
    pub places : KeepsPlaces (objects_in slots) (place_in slots)
    pub types : KeepsTypes g (objects_in slots) kept
    pub filled : AreFilled slots
