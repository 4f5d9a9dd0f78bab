-- What a change of one slot makes of the objects and of the places.
use Rattle.std.proofs.Common.{◌≡◌, ◌∙◌, ℕ, zero, suc, Bool, true, false, cond, nat_eq, nat_cmp, List, [], ◌∷◌, slice_get, Option, None, Some, IsSome, IfSome, refl, ap, sym, subst, eqb-true}
use Rattle.std.proofs.lemmas.Bool.{false≢true}
use Rattle.std.proofs.lemmas.Bool.Decides.{Decides-eqb}
use Rattle.std.proofs.lemmas.Map.Made.{lookup_key_same}
use Rattle.std.specs.BTreeMap.{is_at}
use Rattle.std.specs.Borrow.{MutBor}
use Rattle.std.specs.Cmp.{nat_eq_equiv}
use Rattle.std.specs.Map.{lookup, lookup_key, remove_entry, values_of}
use Rattle.std.specs.Option.{is_some, option_copied_mut, option_and_then, OnSome}
use Rattle.indexmap.specs.IndexMap.{IndexMap, IsUnique, Updates, set_value_at, with_value_at}
use Rattle.indexmap.proofs.CallerLemmas.{updates-with_value_at}
use Rattle.ob_objects.specs.declared.named.EntryPlace.{EntryPlace}
use Rattle.ob_objects.specs.declared.object.StoredObject.{StoredObject}
use Rattle.ob_objects.specs.declared.slots.Slot.{Slot}
use Rattle.ob_objects.specs.declared.slots.Slots.{Slots}
use Rattle.ob_objects.specs.Slots.{objects_in, KeepPlaces, AreFilled, StayFilled, IsPlaceOf}
use Rattle.ob_objects.proofs.ById.{seen_removed, part_stays}

module _ {X : Type 0} where
  -- of two entries one under an id has changed, or gone
  abbrev pub ChangesAt : ℕ → Option X → List (ℕ × X) → List (ℕ × X) → Type 0
  ChangesAt id w old new = (q : ℕ) → lookup (nat_eq q) new ≡ cond (nat_eq id q) w (lookup (nat_eq q) old)

  -- what was lent was there, and was written
  pub written : (old new : List (ℕ × X)) (id : ℕ) (x w : X) → lookup (nat_eq id) old ≡ Some x
      → (IsSome (lookup (nat_eq id) old) → ChangesAt id (Some w) old new) → ChangesAt id (Some w) old new
  written old new id x w found writes = writes (subst (λ o. IsSome o) (sym found) refl)

  -- of two changes of one entry the later stays
  pub changed_again : (id : ℕ) (v w : Option X) (first then last : List (ℕ × X)) → ChangesAt id v first then → ChangesAt id w then last → ChangesAt id w first last
  changed_again id v w first then last before after q = after q ∙ ap (λ o. cond (nat_eq id q) w o) (before q) ∙ go (nat_eq id q)
    where
      go : (t : Bool) → cond t w (cond t v (lookup (nat_eq q) first)) ≡ cond t w (lookup (nat_eq q) first)
      go true = refl
      go false = refl

  -- where nothing is, nothing goes
  pub absent_goes : (id : ℕ) (es : List (ℕ × X)) → lookup (nat_eq id) es ≡ None → ChangesAt id None es es
  absent_goes id es none q = go (nat_eq id q) refl
    where
      go : (t : Bool) → nat_eq id q ≡ t → lookup (nat_eq q) es ≡ cond t None (lookup (nat_eq q) es)
      go true is = ap (λ k. lookup (nat_eq k) es) (sym (eqb-true id q is)) ∙ none
      go false is = refl

  -- ---- a value is found, written and taken out by its index

  found_at_index : (es : List (ℕ × X)) (i k : ℕ) (v : X) → slice_get es i ≡ Some (k, v) → slice_get (values_of es) i ≡ Some v
  found_at_index [] i k v at = cc
  found_at_index (e ∷ es) zero k v at = cc
  found_at_index (e ∷ es) (suc i) k v at = found_at_index es i k v at

  written_at_index : (es : List (ℕ × X)) (i k : ℕ) (v w : X) → slice_get es i ≡ Some (k, v) → slice_get (set_value_at es i w) i ≡ Some (k, w)
  written_at_index [] i k v w at = cc
  written_at_index (e ∷ es) zero k v w at = cc
  written_at_index (e ∷ es) (suc i) k v w at = written_at_index es i k v w at

  -- what stands at an index under a key, and is found under it, is what an id that is the same is sought for
  pub place_at : (es : List (ℕ × X)) (i k id : ℕ) (v : X) → k ≡ id → slice_get es i ≡ Some (k, v) → lookup (nat_eq k) es ≡ Some v → IsPlaceOf id es (Some i)
  place_at es i k id v same at found = subst (λ n. IsPlaceOf n es (Some i)) same (v, at, found)

  pub place_by_key : (es : List (ℕ × X)) (i k id : ℕ) (v : X) → Some k ≡ lookup_key (nat_eq id) es → slice_get es i ≡ Some (k, v) → Some v ≡ lookup (nat_eq id) es → IsPlaceOf id es (Some i)
  place_by_key es i k id v key at found =
      let is : id ≡ k = lookup_key_same Decides-eqb id es k (sym key) in
      (v, at ∙ ap (λ n. Some (n, v)) (sym is), sym found)

  module _ {S : Type 0} (m : IndexMap ℕ X S) (id i : ℕ) (there : IsPlaceOf id m.entries (Some i)) where
    -- what is lent by the index is what is found under the id
    pub lent_at : slice_get (values_of m.entries) i ≡ lookup (nat_eq id) m.entries
    lent_at = found_at_index m.entries i id there.0 there.1 ∙ sym there.2

    pub written_at : (w : X) → IsUnique nat_eq m → ChangesAt id (Some w) m.entries (with_value_at m i w).entries
    written_at w unique q = (updates-with_value_at m i w nat_eq_equiv unique id there.0 there.1).0 q

    pub removed_at : (w : X) (n : IndexMap ℕ X S) (r : Option (ℕ × X)) → r ≡ slice_get (with_value_at m i w).entries i → IfSome r (λ p. Updates nat_eq (with_value_at m i w) n p.0 None)
        → ChangesAt id None (with_value_at m i w).entries n.entries
    removed_at w n r gone updates q =
        (subst (λ (o : Option (ℕ × X)). IfSome o (λ p. Updates nat_eq (with_value_at m i w) n p.0 None)) (gone ∙ written_at_index m.entries i id there.0 w there.1) updates).0 q

  -- what is said where a reference is lent, of a value that is there
  pub on_lent : {P : Type 0} (r : Option (MutBor X)) (o : Option X) → option_copied_mut r ≡ o → ((x : X) → o ≡ Some x → P) → OnSome r P
  on_lent None o is follows = tt
  on_lent (Some x) o is follows = follows x.now (sym is)

  pub not_some_none : (o : Option X) → is_some o ≡ false → o ≡ None
  not_some_none None is = refl
  not_some_none (Some x) is = absurd (false≢true (sym is))

pub has_place : (p : Option EntryPlace) → is_some p ≡ true → p ≡ None → ⊥
has_place p some none = false≢true (sym (ap is_some none) ∙ some)

module _ {F I : Type 0} where
  -- no slot is empty where the one that changed isn't
  pub filled_then : (old new : Slots F I) (id : ℕ) (w : Option (Slot F I)) → ChangesAt id w old.map.entries new.map.entries
      → (AreFilled old → option_and_then (λ slot. slot.object) w ≡ None → option_and_then (λ slot. slot.place) w ≡ None → w ≡ None) → StayFilled old new
  filled_then old new id w changed filled before q no_object no_place =
      changed q ∙ go (nat_eq id q)
      (ap (option_and_then (λ slot. slot.object)) (sym (changed q)) ∙ no_object) (ap (option_and_then (λ slot. slot.place)) (sym (changed q)) ∙ no_place)
    where
      go : (t : Bool) → option_and_then (λ slot. slot.object) (cond t w (lookup (nat_eq q) old.map.entries)) ≡ None
          → option_and_then (λ slot. slot.place) (cond t w (lookup (nat_eq q) old.map.entries)) ≡ None → cond t w (lookup (nat_eq q) old.map.entries) ≡ None
      go true free unnamed = filled before free unnamed
      go false free unnamed = before q free unnamed

  -- the one that changed was there, and was filled
  pub was_filled : (old : Slots F I) (id : ℕ) (slot : Slot F I) → lookup (nat_eq id) old.map.entries ≡ Some slot
      → AreFilled old → slot.object ≡ None → slot.place ≡ None → ⊥
  was_filled old id slot raw filled free unnamed =
      nothing (sym raw ∙ filled id (ap (option_and_then (λ x. x.object)) raw ∙ free) (ap (option_and_then (λ x. x.place)) raw ∙ unnamed))
    where
      nothing : Some slot ≡ None → ⊥
      nothing none = cc

  -- a slot with an object isn't empty
  pub has_object : (x : StoredObject F I) (place : Option EntryPlace) → Some x ≡ None → ◌≡◌ {A = Option (Slot F I)} (Some (record { object = Some x; place = place })) None
  has_object x place e = cc

  -- the object is taken, and the place stays
  pub taken_then : (old new : Slots F I) (id : ℕ) (slot : Slot F I) (w : Option (Slot F I)) → lookup (nat_eq id) old.map.entries ≡ Some slot
      → ChangesAt id w old.map.entries new.map.entries → option_and_then (λ x. x.object) w ≡ None → option_and_then (λ x. x.place) w ≡ slot.place
      → (AreFilled old → option_and_then (λ x. x.object) w ≡ None → option_and_then (λ x. x.place) w ≡ None → w ≡ None)
      → (objects_in new ≡ remove_entry (is_at (nat_cmp id)) (objects_in old)) × KeepPlaces old new × StayFilled old new
  taken_then old new id slot w raw changed free stays fills = (
    seen_removed (λ (x : Slot F I). x.object) old.map.entries new.map.entries id w changed free,
    part_stays (λ (x : Slot F I). x.place) old.map.entries new.map.entries id w changed (stays ∙ ap (option_and_then (λ (x : Slot F I). x.place)) (sym raw)),
    filled_then old new id w changed fills,
  )
