-- A clone of a slab has the same rows, where clones of its values are the same.
use Rattle.std.proofs.Common.{◌≡◌, ℕ, List, Option, None, Some, is_some, count_by, slice_index_or, ap}
use Rattle.std.proofs.lemmas.List.Elements.{same_from_all_zip}
use Rattle.slab.specs.Slab.{Slab, IsSlabClone, IsSlotClone, get, slab_len}

module _ {T : Type 0} (C : T → T → Type 0) (same : (x y : T) → C x y → y ≡ x) where
  slot_cloned : (slot copy : Option T) → IsSlotClone C slot copy → copy ≡ slot
  slot_cloned None copy is = is
  slot_cloned (Some x) None is = absurd is
  slot_cloned (Some x) (Some y) is = ap Some (same x y is)

  slots_cloned : (s copy : Slab T) → IsSlabClone C s copy → copy.slots ≡ s.slots
  slots_cloned s copy is = same_from_all_zip (IsSlotClone C) s.slots copy.slots is.slots slot_cloned

  pub rows_cloned : (s copy : Slab T) → IsSlabClone C s copy → get copy ≡ get s
  rows_cloned s copy is = ap (λ (slots : List (Option T)). λ (key : ℕ). slice_index_or slots key None) (slots_cloned s copy is)

  pub count_cloned : (s copy : Slab T) → IsSlabClone C s copy → slab_len copy ≡ slab_len s
  count_cloned s copy is = ap (count_by is_some) (slots_cloned s copy is)
