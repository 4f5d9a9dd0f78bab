-- The greatest object that is listed below a bound, told from the objects in order, and how many are below it.
use Rattle.std.proofs.Common.{◌≡◌, ◌∙◌, ℕ, ◌+◌, ◌≤◌, ◌<◌, ◌==◌, Bool, true, false, List, length, None, Some, get_or, nat_le, ltb, ap, sym, refl, arith, leb-true, leb-false, ltb-true, ltb-false, eqb-true, eq-eqb}
use Rattle.std.proofs.lemmas.List.{get_or_default}
use Rattle.std.proofs.lemmas.List.Folds.{Any-from_list_any, list_any-from_Any}
use Rattle.std.specs.List.{Any}
use Rattle.std.specs.List.Sorted.{IsPartitionPoint}
use Rattle.ob_handles.specs.Counts.{Numbers, is_listed, AreListed, IsLastListed}

module _ (now : Numbers) (ids : List ℕ) (listed : AreListed now ids) (bound place : ℕ) (point : IsPartitionPoint (λ y. ltb y bound ≡ true) (λ y. ltb y bound ≡ false) ids place) where
  -- where an object stands that is listed
  among : (object : ℕ) → is_listed now object ≡ true → Any (λ id. (id == object) ≡ true) ids
  among object is = Any-from_list_any (λ id. id == object) ids (sym (listed.1 object) ∙ is)

  -- one that stands behind those below the bound isn't below it
  behind : (object k x : ℕ) → place ≤ k → k < length ids → get_or ids k x ≡ x → (x == object) ≡ true → bound ≤ object
  behind object k x from within at is =
      let above : bound ≤ x = ltb-false x bound (ap (λ y. ltb y bound) (sym at) ∙ point.1 k x from within) in
      let same : x ≡ object = eqb-true x object is in
      omega (arith, above, same)

  pub none_before : place < 1 → IsLastListed bound now None
  none_before none object is =
      let at = among object is in
      behind object at.0 at.1 (omega (arith, none)) at.2 at.3 at.4

  module _ (index last : ℕ) (before : place ≡ index + 1) (within : index < length ids) (at : get_or ids index last ≡ last) where
    no_greater : (object k x : ℕ) → k < length ids → get_or ids k x ≡ x → (x == object) ≡ true → object < bound → object ≤ last
    no_greater object k x inside found is less = go (nat_le place k) refl
      where
        go : (t : Bool) → nat_le place k ≡ t → object ≤ last
        go true e =
            let above : bound ≤ object = behind object k x (leb-true place k e) inside found is in
            omega (arith, above, less)
        go false e =
            let order : k < place = leb-false place k e in
            let so : get_or ids k last ≤ get_or ids index last = listed.0 k index last (omega (arith, order, before)) within in
            let it : get_or ids k last ≡ x = get_or_default ids k last x inside ∙ found in
            let same : x ≡ object = eqb-true x object is in
            omega (arith, so, it, same, at)

    pub one_before : IsLastListed bound now (Some last)
    one_before = (
      listed.1 last ∙ list_any-from_Any (λ id. id == last) ids (index, last, within, at, eq-eqb last last refl),
      ltb-true last bound (ap (λ y. ltb y bound) (sym at) ∙ point.0 index last (omega arith) (omega (arith, before))),
      λ object is less.
          let it = among object is in
          no_greater object it.0 it.1 it.2 it.3 it.4 less,
    )
