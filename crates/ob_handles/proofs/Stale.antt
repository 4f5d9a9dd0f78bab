-- Openings of which stale ones go, from either end or all at once.
use Rattle.std.proofs.Common.{◌≡◌, ◌∙◌, ℕ, ◌-◌, ◌<◌, ◌==◌, Bool, true, false, cond, List, [], ◌∷◌, ◌++◌, length, get_or, slice_get, filter, Option, None, Some, is_some, IsSome, All, refl, ap, sym, subst, arith, inl, inr, true≢false, eqb-true}
use Rattle.std.proofs.lemmas.List.{append-nil, get_or_append_left, get_or_push, length_push}
use Rattle.std.proofs.lemmas.List.Elements.{All-contains, All-contains_itself, All-filter, All-push, Contains-append_left, Contains-append_right, Contains-push, Contains-push_cases, filter_map-append}
use Rattle.std.proofs.lemmas.List.Kept.{AllPairs-filter}
use Rattle.std.specs.List.{Contains, cons_option}
use Rattle.std.specs.Option.{option_to_list}
use Rattle.slab.proofs.SlabLemmas.{Contains-cons_cases}
use Rattle.ob_model.specs.declared.state.Held.{Held}
use Rattle.ob_handles.specs.declared.openings.Opening.{Opening}
use Rattle.ob_handles.specs.Openings.{Rows, of_order, held_by, handles_of, AreRising, LeadsToFirst, NoneIsNewer, OnlyStaleGo}
use Rattle.ob_handles.proofs.SlabLists.{AllPairs-front, AllPairs-tail, Contains-filter, filter_map-cons_none, filter_map-filter, first-filter}

-- the handle that an opening leads to is that of its row, and has its order
pub row_of_held : (rows : Rows) (opening : Opening) (held : Held) → held_by rows opening ≡ Some held → (rows opening.key ≡ Some held) × (held.order ≡ opening.order)
row_of_held rows opening held found = go (rows opening.key) refl found
  where
    same : (h : Held) (b : Bool) → (h.order == opening.order) ≡ b → cond b (Some h) None ≡ Some held → (h ≡ held) × (held.order ≡ opening.order)
    same h true e is =
        let it : h ≡ held = cc in
        (it, ap (λ x. x.order) (sym it) ∙ eqb-true h.order opening.order e)
    same h false e is = cc

    go : (o : Option Held) → rows opening.key ≡ o → of_order opening.order o ≡ Some held → (rows opening.key ≡ Some held) × (held.order ≡ opening.order)
    go None row is = cc
    go (Some h) row is =
        let both : (h ≡ held) × (held.order ≡ opening.order) = same h (h.order == opening.order) refl is in
        (row ∙ ap Some both.0, both.1)

-- what a test of a handle says
pub none_held : (o r : Option Held) (b : Bool) → r ≡ o → b ≡ is_some r → b ≡ false → o ≡ None
none_held o None b is test fails = sym is
none_held o (Some h) b is test fails = absurd (true≢false (sym test ∙ fails))

pub some_held : (o r : Option Held) (b : Bool) → r ≡ o → b ≡ is_some r → b ≡ true → IsSome o
some_held o r b is test passes = ap is_some (sym is) ∙ sym test ∙ passes

not_held : (o : Option Held) → o ≡ None → IsSome o → ⊥
not_held None e some = absurd (true≢false (sym some))
not_held (Some h) e some = cc

module _ (rows : Rows) where
  pub none_goes : (opened : List Opening) → OnlyStaleGo rows opened opened
  none_goes opened = record {
    handles = refl;
    rising = λ rising. rising;
    among = All-contains_itself opened;
    others = λ opening held there. there;
  }

  pub more_go : (old now new : List Opening) → OnlyStaleGo rows old now → OnlyStaleGo rows now new → OnlyStaleGo rows old new
  more_go old now new before after = record {
    handles = after.handles ∙ before.handles;
    rising = λ rising. after.rising (before.rising rising);
    among = λ k d below. All-contains (λ o. Contains old o) now (get_or new k d) before.among (after.among k d below);
    others = λ opening held there. after.others opening held (before.others opening held there);
  }

  pub oldest_goes : (old new : List Opening) (opening : Opening) → old ≡ opening ∷ new → held_by rows opening ≡ None → OnlyStaleGo rows old new
  oldest_goes old new opening is stale = subst (λ os. OnlyStaleGo rows os new) (sym is) (record {
    handles = sym (filter_map-cons_none (held_by rows) opening new stale);
    rising = AllPairs-tail (λ a b. a.order < b.order) opening new;
    among = λ k d below. Contains-append_right (opening ∷ []) new (get_or new k d) (All-contains_itself new k d below);
    others = λ other held there.
        elim (Contains-cons_cases opening other new there) [
          | inl same ↦ absurd (not_held (held_by rows other) (ap (held_by rows) (sym same) ∙ stale) held)
          | inr later ↦ later
        ];
  })

  pub newest_goes : (old new : List Opening) (opening : Opening) → old ≡ new ++ opening ∷ [] → held_by rows opening ≡ None → OnlyStaleGo rows old new
  newest_goes old new opening is stale = subst (λ os. OnlyStaleGo rows os new) (sym is) (record {
    handles =
        sym (filter_map-append (held_by rows) new (opening ∷ []) ∙ ap (λ hs. handles_of rows new ++ hs) (filter_map-cons_none (held_by rows) opening [] stale)
        ∙ append-nil (handles_of rows new));
    rising = AllPairs-front (λ a b. a.order < b.order) new opening;
    among = λ k d below. Contains-append_left new (opening ∷ []) (get_or new k d) (All-contains_itself new k d below);
    others = λ other held there.
        elim (Contains-push_cases new opening other there) [
          | inl earlier ↦ earlier
          | inr same ↦ absurd (not_held (held_by rows other) (ap (held_by rows) (sym same) ∙ stale) held)
        ];
  })

  -- the same, as the calls of a queue say it
  pub oldest_popped : (old new : List Opening) (n : ℕ) (popped : Option Opening) (opening : Opening) → 0 < n → opening ≡ get_or old 0 opening
      → ((d : Opening) → 0 < n → popped ≡ Some (get_or old 0 d)) → old ≡ option_to_list popped ++ new → held_by rows opening ≡ None → OnlyStaleGo rows old new
  oldest_popped old new n popped opening some is first rest stale =
      oldest_goes old new opening (rest ∙ ap (λ o. option_to_list o ++ new) (first opening some ∙ ap Some (sym is))) stale

  pub newest_popped : (old new : List Opening) (n : ℕ) (popped : Option Opening) (opening : Opening) → 0 < n → opening ≡ get_or old (n - 1) opening
      → ((d : Opening) → 0 < n → popped ≡ Some (get_or old (n - 1) d)) → old ≡ new ++ option_to_list popped → held_by rows opening ≡ None → OnlyStaleGo rows old new
  newest_popped old new n popped opening some is last rest stale =
      newest_goes old new opening (rest ∙ ap (λ o. new ++ option_to_list o) (last opening some ∙ ap Some (sym is))) stale

  pub all_go : (old new : List Opening) → new ≡ filter (λ o. is_some (held_by rows o)) old → OnlyStaleGo rows old new
  all_go old new is = subst (OnlyStaleGo rows old) (sym is) (record {
    handles = filter_map-filter (held_by rows) old;
    rising = AllPairs-filter (λ a b. a.order < b.order) (λ o. is_some (held_by rows o)) old;
    among = All-filter (λ o. is_some (held_by rows o)) (λ o. Contains old o) old (All-contains_itself old);
    others = λ other held there. Contains-filter (λ o. is_some (held_by rows o)) old other held there;
  })

  -- ---- the first, and the newest

  pub first_of_none : (opened : List Opening) → opened ≡ [] → LeadsToFirst rows opened
  first_of_none opened is = subst (LeadsToFirst rows) (sym is) refl

  pub first_of_held : (opened : List Opening) (opening : Opening) → slice_get opened 0 ≡ Some opening → IsSome (held_by rows opening) → LeadsToFirst rows opened
  first_of_held [] opening is held = cc
  first_of_held (o ∷ os) opening is held =
      let same : o ≡ opening = cc in
      go (held_by rows o) refl (subst (λ x. IsSome (held_by rows x)) (sym same) held)
    where
      go : (h : Option Held) → held_by rows o ≡ h → IsSome h → slice_get (cons_option (held_by rows o) (handles_of rows os)) 0 ≡ held_by rows o
      go None e some = absurd (true≢false (sym some))
      go (Some h) e some = ap (λ x. slice_get (cons_option x (handles_of rows os)) 0) e ∙ sym e

  pub first_of_all : (old new : List Opening) → new ≡ filter (λ o. is_some (held_by rows o)) old → LeadsToFirst rows new
  first_of_all old new is = subst (LeadsToFirst rows) (sym is) (first-filter (held_by rows) old)

  pub newest_of_none : (opened : List Opening) → opened ≡ [] → NoneIsNewer rows opened
  newest_of_none opened is = subst (NoneIsNewer rows) (sym is) (λ order above k d below. absurd (omega (arith, below)))

  pub newest_of_held : (opened front : List Opening) (opening : Opening) → opened ≡ front ++ opening ∷ [] → AreRising opened → IsSome (held_by rows opening) → NoneIsNewer rows opened
  newest_of_held opened front opening is rising held = subst (NoneIsNewer rows) (sym is) (go (held_by rows opening) refl held)
    where
      pairs : AreRising (front ++ opening ∷ [])
      pairs = subst AreRising is rising

      before : (order : ℕ) → opening.order < order → All (λ o. o.order < order) front
      before order last = λ k d below.
          let one : get_or (front ++ opening ∷ []) k d ≡ get_or front k d = get_or_append_left front (opening ∷ []) d k below in
          let other : get_or (front ++ opening ∷ []) (length front) d ≡ opening = get_or_push front opening d (length front) refl in
          let lower : (get_or (front ++ opening ∷ []) k d).order < (get_or (front ++ opening ∷ []) (length front) d).order =
          pairs k (length front) d below (omega (arith, length_push front opening))
          in
          let orders : (get_or (front ++ opening ∷ []) k d).order ≡ (get_or front k d).order = ap (λ o. o.order) one in
          let top : (get_or (front ++ opening ∷ []) (length front) d).order ≡ opening.order = ap (λ o. o.order) other in
          omega (arith, lower, orders, top, last)

      go : (h : Option Held) → held_by rows opening ≡ h → IsSome h → NoneIsNewer rows (front ++ opening ∷ [])
      go None e some = absurd (true≢false (sym some))
      go (Some h) e some = λ order above.
          let handles : handles_of rows (front ++ opening ∷ []) ≡ handles_of rows front ++ h ∷ [] =
          filter_map-append (held_by rows) front (opening ∷ []) ∙ ap (λ x. handles_of rows front ++ cons_option x []) e
          in
          let own : h.order < order =
          All-contains (λ x. x.order < order) (handles_of rows front ++ h ∷ []) h (subst (All (λ x. x.order < order)) handles above) (Contains-push (handles_of rows front) h)
          in
          let is_own : h.order ≡ opening.order = (row_of_held rows opening h e).1 in
          let last : opening.order < order = omega (arith, own, is_own) in
          All-push (λ o. o.order < order) front opening (before order last) last

  -- what is left of openings keeps that none is newer
  pub newest_stays : (old new : List Opening) → OnlyStaleGo rows old new → NoneIsNewer rows old → NoneIsNewer rows new
  newest_stays old new goes newest = λ order above k d below.
      All-contains (λ o. o.order < order) old (get_or new k d) (newest order (subst (All (λ h. h.order < order)) goes.handles above)) (goes.among k d below)
