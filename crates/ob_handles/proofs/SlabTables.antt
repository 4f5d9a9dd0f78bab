-- A table that is kept in three parts: what is found by a value, what holds of it, and that it is kept when a
-- handle comes or goes.
use Rattle.std.proofs.Common.{◌≡◌, ◌≢◌, ◌∙◌, ℕ, ◌+◌, ◌*◌, ◌<◌, ◌≤◌, ◌==◌, Bool, true, false, not, cond, List, [], ◌∷◌, ◌++◌, length, get_or, slice_get, find, Option, None, Some, option_map, is_some, All, refl, ap, sym, subst, arith, inl, inr, eqb-true, eq-eqb}
use Rattle.std.proofs.lemmas.Bool.{cases_eq}
use Rattle.std.proofs.lemmas.List.{length_push}
use Rattle.std.proofs.lemmas.List.Elements.{All-nil, All-head, All-contains, All-push, Contains-append_left, Contains-push, filter_map-append}
use Rattle.std.proofs.lemmas.List.Quantifiers.{all_pairs_push}
use Rattle.std.specs.List.{AllPairs, Contains, cons_option}
use Rattle.std.specs.Option.{option_and_then, option_or}
use Rattle.ob_model.specs.declared.state.Held.{Held}
use Rattle.ob_model.specs.Grants.{IsHandleValue}
use Rattle.ob_model.proofs.Finds.{find_none}
use Rattle.ob_handles.specs.Table.{IsTable, without}
use Rattle.ob_handles.specs.declared.openings.Opening.{Opening}
use Rattle.ob_handles.specs.Openings.{Rows, of_order, held_by, handles_of, LeadsToFirst, NoneIsNewer, OnlyStaleGo}
use Rattle.ob_handles.specs.Kept.{IsKept}
use Rattle.ob_handles.specs.Values.{Turns}
use Rattle.ob_handles.proofs.SlabLists.{All-filter_map, AllPairs-filter_map, Contains-filter_map, filter_map_agree, passing, filter_map-passing, find_only, length-others, first_push}
use Rattle.ob_handles.proofs.Stale.{row_of_held}

pub differ : (a b : ℕ) → a ≢ b → (a == b) ≡ false
differ a b other = go (a == b) refl
  where
    go : (t : Bool) → (a == b) ≡ t → (a == b) ≡ false
    go true same = absurd (other (eqb-true a b same))
    go false apart = apart

-- the opening of a row's handle leads to it
own_opening : (rows : Rows) (key : ℕ) (held : Held) → rows key ≡ Some held → held_by rows (record { order = held.order; key = key }) ≡ Some held
own_opening rows key held row = ap (of_order held.order) row ∙ ap (λ b. cond b (Some held) None) (eq-eqb held.order held.order refl)

-- one opening more, of the newest handle, leaves the first as it is
first_put : (rows more : Rows) (own : Opening) (held : Held) → held_by more own ≡ Some held → (opened : List Opening) → All (λ o. held_by more o ≡ held_by rows o) opened
    → LeadsToFirst rows opened → NoneIsNewer rows opened → handles_of more (opened ++ own ∷ []) ≡ handles_of rows opened ++ held ∷ [] → LeadsToFirst more (opened ++ own ∷ [])
first_put rows more own held leads [] same first newest put = ap (λ hs. slice_get hs 0) put ∙ sym leads
first_put rows more own held leads (o ∷ os) same first newest put =
    ap (λ hs. slice_get hs 0) put ∙ first_push (handles_of rows (o ∷ os)) held ∙ go (handles_of rows (o ∷ os)) refl first
    ∙ sym (All-head (λ x. held_by more x ≡ held_by rows x) o os same)
  where
    go : (hs : List Held) → handles_of rows (o ∷ os) ≡ hs → slice_get hs 0 ≡ held_by rows o → option_or (slice_get hs 0) (Some held) ≡ held_by rows o
    go [] none first_is =
        let below : o.order < 0 = newest 0 (subst (All (λ h. h.order < 0)) (sym none) (All-nil (λ h. h.order < 0))) 0 o (omega arith) in
        absurd (omega (arith, below))
    go (h ∷ hs) some first_is = first_is

module _ (rows : Rows) (keys : ℕ → Option ℕ) (opened : List Opening) (count : ℕ) (is : IsKept rows keys opened count) where
  -- each handle lies in a row
  in_row : All (λ h. (key : ℕ) × (rows key ≡ Some h)) (handles_of rows opened)
  in_row =
      All-filter_map (held_by rows) (λ h. (key : ℕ) × (rows key ≡ Some h)) opened
      (λ k d below. λ h found. ((get_or opened k d).key, (row_of_held rows (get_or opened k d) h found).0))

  -- and the handle of each row is there
  listed : (key : ℕ) (held : Held) → rows key ≡ Some held → Contains (handles_of rows opened) held
  listed key held row =
      Contains-filter_map (held_by rows) opened (record { order = held.order; key = key }) held (own_opening rows key held row) (is.rows_lead key held row).2

  -- a value leads to the row of its handle alone
  leads_to : (key : ℕ) (held : Held) (value other : ℕ) → rows key ≡ Some held → held.value ≡ value → keys value ≡ Some other → key ≡ other
  leads_to key held value other row same leads =
      let own : keys held.value ≡ Some key = (is.rows_lead key held row).0 in
      let one : keys held.value ≡ keys value = ap keys same in
      cc

  -- the row that a value leads to has a handle of that value
  pub row_of_value : (value key : ℕ) → keys value ≡ Some key → (held : Held) × (rows key ≡ Some held) × (held.value ≡ value)
  row_of_value value key leads = go (rows key) refl (is.values_lead value key leads)
    where
      go : (o : Option Held) → rows key ≡ o → option_map (λ h. h.value) o ≡ Some value → (held : Held) × (rows key ≡ Some held) × (held.value ≡ value)
      go None row has = cc
      go (Some h) row has = let it : h.value ≡ value = cc in (h, row, it)

  -- where a value leads nowhere, no handle has it
  pub no_handle_has : (value : ℕ) → keys value ≡ None → All (λ h. (h.value == value) ≡ false) (handles_of rows opened)
  no_handle_has value none = λ k d below. other (get_or (handles_of rows opened) k d) (in_row k d below)
    where
      other : (h : Held) → (key : ℕ) × (rows key ≡ Some h) → (h.value == value) ≡ false
      other h row =
          differ h.value value
          (λ same.
          let own : keys h.value ≡ Some row.0 = (is.rows_lead row.0 h row.1).0 in
          let one : keys h.value ≡ keys value = ap keys same in
          cc)

  -- what is found by a value
  pub found_by_value : (value : ℕ) → find (λ h. h.value == value) (handles_of rows opened) ≡ option_and_then rows (keys value)
  found_by_value value = go (keys value) refl
    where
      only : (key : ℕ) (held : Held) → keys value ≡ Some key → rows key ≡ Some held → (h : Held) → (k : ℕ) × (rows k ≡ Some h) → (h.value == value) ≡ true → h ≡ held
      only key held leads row h own same =
          let one : own.0 ≡ key = leads_to own.0 h value key own.1 (eqb-true h.value value same) leads in
          let both : Some h ≡ Some held = sym own.1 ∙ ap rows one ∙ row in
          cc

      go : (o : Option ℕ) → keys value ≡ o → find (λ h. h.value == value) (handles_of rows opened) ≡ option_and_then rows o
      go None none = find_none (λ h. h.value == value) (handles_of rows opened) (no_handle_has value none)
      go (Some key) leads =
          let held : (h : Held) × (rows key ≡ Some h) × (h.value ≡ value) = row_of_value value key leads in
          find_only (λ h. h.value == value) (handles_of rows opened) held.0 (listed key held.0 held.1) (eq-eqb held.0.value value held.2)
          (λ k d below. only key held.0 leads held.1 (get_or (handles_of rows opened) k d) (in_row k d below))
          ∙ sym held.1

  -- a value that isn't used leads nowhere, and the other way round
  pub unused_leads_nowhere : (value : ℕ) → find (λ h. h.value == value) (handles_of rows opened) ≡ None → keys value ≡ None
  unused_leads_nowhere value none = go (keys value) refl (sym (found_by_value value) ∙ none)
    where
      go : (o : Option ℕ) → keys value ≡ o → option_and_then rows o ≡ None → keys value ≡ None
      go None leads nothing = leads
      go (Some key) leads nothing =
          let held : (h : Held) × (rows key ≡ Some h) × (h.value ≡ value) = row_of_value value key leads in
          let row : rows key ≡ Some held.0 = held.1 in
          cc

  pub leads_nowhere_unused : (value : ℕ) → keys value ≡ None → find (λ h. h.value == value) (handles_of rows opened) ≡ None
  leads_nowhere_unused value none = found_by_value value ∙ ap (option_and_then rows) none

  -- ---- what holds of every table

  rising : AllPairs (λ a b. a.order < b.order) (handles_of rows opened)
  rising =
      AllPairs-filter_map (held_by rows) (λ a b. a.order < b.order) (λ a b. a.order < b.order)
      (λ a b y z first second before.
      let own : y.order ≡ a.order = (row_of_held rows a y first).1 in
      let other : z.order ≡ b.order = (row_of_held rows b z second).1 in
      omega (arith, own, other, before))
      opened is.rising

  apart : AllPairs (λ a b. a.value ≢ b.value) (handles_of rows opened)
  apart = λ i j d before below.
      let a : Held = get_or (handles_of rows opened) i d in
      let b : Held = get_or (handles_of rows opened) j d in
      let within : i < length (handles_of rows opened) = omega (arith, before, below) in
      not_same a b (in_row i d within) (in_row j d below) (rising i j d before below)
    where
      not_same : (a b : Held) → (key : ℕ) × (rows key ≡ Some a) → (key : ℕ) × (rows key ≡ Some b) → a.order < b.order → a.value ≢ b.value
      not_same a b first second before same =
          let one : first.0 ≡ second.0 = leads_to first.0 a b.value second.0 first.1 same (is.rows_lead second.0 b second.1).0 in
          let both : Some a ≡ Some b = sym first.1 ∙ ap rows one ∙ second.1 in
          let it : a ≡ b = cc in
          let orders : a.order ≡ b.order = ap (λ h. h.order) it in
          omega (arith, before, orders)

  pub is_table : IsTable (handles_of rows opened)
  is_table = record {
    rising = rising;
    apart = apart;
    values = λ k d below. value_is (get_or (handles_of rows opened) k d) (in_row k d below);
  }
    where
      value_is : (h : Held) → (key : ℕ) × (rows key ≡ Some h) → IsHandleValue h.value
      value_is h row = (is.rows_lead row.0 h row.1).1

  -- ---- a handle goes

  module _ (value key : ℕ) (leads : keys value ≡ Some key) (left : Rows) (rows_turn : Turns rows left key None) where
    leads_on : (opening : Opening) → held_by left opening ≡ passing (λ h. not (h.value == value)) (held_by rows opening)
    leads_on opening = elim (cases_eq opening.key key) [
      | inl same ↦ gone same (rows opening.key) refl
      | inr other ↦ ap (of_order opening.order) (rows_turn.1 opening.key other) ∙ stays other (rows opening.key) refl
    ]
      where
        hidden : (h : Held) (b : Bool) → h.value ≡ value → None ≡ passing (λ (x : Held). not (x.value == value)) (cond b (Some h) None)
        hidden h true same = sym (ap (λ b. cond (not b) (Some h) None) (eq-eqb h.value value same))
        hidden h false same = refl

        gone : opening.key ≡ key → (o : Option Held) → rows opening.key ≡ o → held_by left opening ≡ passing (λ h. not (h.value == value)) (of_order opening.order o)
        gone same None row = ap (of_order opening.order) (ap left same ∙ rows_turn.0)
        gone same (Some h) row =
            let held : (x : Held) × (rows key ≡ Some x) × (x.value ≡ value) = row_of_value value key leads in
            let both : Some h ≡ Some held.0 = sym row ∙ ap rows same ∙ held.1 in
            let it : h ≡ held.0 = cc in
            ap (of_order opening.order) (ap left same ∙ rows_turn.0) ∙ hidden h (h.order == opening.order) (ap (λ x. x.value) it ∙ held.2)

        shown : (h : Held) (b : Bool) → (h.value == value) ≡ false → cond b (Some h) None ≡ passing (λ (x : Held). not (x.value == value)) (cond b (Some h) None)
        shown h true differs = sym (ap (λ b. cond (not b) (Some h) None) differs)
        shown h false differs = refl

        stays : opening.key ≢ key → (o : Option Held) → rows opening.key ≡ o → of_order opening.order o ≡ passing (λ h. not (h.value == value)) (of_order opening.order o)
        stays other None row = refl
        stays other (Some h) row =
            shown h (h.order == opening.order) (differ h.value value (λ same. other (leads_to opening.key h value key row same leads)))

    pub one_less : handles_of left opened ≡ without (handles_of rows opened) value
    one_less = filter_map-passing (held_by rows) (held_by left) (λ h. not (h.value == value)) opened (λ k d below. leads_on (get_or opened k d))

    pub taken_kept : (keys_left : ℕ → Option ℕ) (openings : List Opening) (fewer : ℕ) → Turns keys keys_left value None → OnlyStaleGo left opened openings
        → LeadsToFirst left openings → NoneIsNewer left openings → (length (handles_of left opened) ≤ fewer → length openings ≤ 2 * fewer + 1) → fewer + 1 ≡ count
        → IsKept left keys_left openings fewer
    taken_kept keys_left openings fewer keys_turn goes first newest few less = record {
      rows_lead = still_leads;
      values_lead = values_still_lead;
      rising = goes.rising is.rising;
      first = first;
      newest = newest;
      as_many =
          let all : length (handles_of left openings) ≡ length (handles_of left opened) = ap length goes.handles in
          omega (arith, all, as_many_left);
      few = few (omega (arith, as_many_left));
    }
      where
        as_many_left : length (handles_of left opened) ≡ fewer
        as_many_left =
            let held : (h : Held) × (rows key ≡ Some h) × (h.value ≡ value) = row_of_value value key leads in
            let found : find (λ h. h.value == value) (handles_of rows opened) ≡ Some held.0 = found_by_value value ∙ ap (option_and_then rows) leads ∙ held.1 in
            let others : length (without (handles_of rows opened) value) + 1 ≡ length (handles_of rows opened) =
            length-others (λ h. h.value == value) (handles_of rows opened) held.0 found
            (λ i j d before below. λ same. differ (get_or (handles_of rows opened) j d).value value
            (λ other. apart i j d before below (eqb-true (get_or (handles_of rows opened) i d).value value same ∙ sym other)))
            in
            let all : length (handles_of left opened) ≡ length (without (handles_of rows opened) value) = ap length one_less in
            let many : count ≡ length (handles_of rows opened) = is.as_many in
            omega (arith, less, others, all, many)

        still_leads : (k : ℕ) (h : Held) → left k ≡ Some h
            → (keys_left h.value ≡ Some k) × IsHandleValue h.value × Contains openings (record { order = h.order; key = k })
        still_leads k h row = elim (cases_eq k key) [
          | inl same ↦ absurd (none_some (sym rows_turn.0 ∙ ap left (sym same) ∙ row))
          | inr other ↦
              let was : rows k ≡ Some h = sym (rows_turn.1 k other) ∙ row in
              let says = is.rows_lead k h was in (
                keys_turn.1 h.value (λ same. other (leads_to k h value key was same leads)) ∙ says.0,
                says.1,
                goes.others (record { order = h.order; key = k }) (ap is_some (own_opening left k h row)) says.2,
              )
        ]
          where
            none_some : None ≡ Some h → ⊥
            none_some e = cc

        values_still_lead : (v k : ℕ) → keys_left v ≡ Some k → option_map (λ h. h.value) (left k) ≡ Some v
        values_still_lead v k found = elim (cases_eq v value) [
          | inl same ↦ absurd (none_some (sym keys_turn.0 ∙ ap keys_left (sym same) ∙ found))
          | inr other ↦
              let was : keys v ≡ Some k = sym (keys_turn.1 v other) ∙ found in
              let has : option_map (λ h. h.value) (rows k) ≡ Some v = is.values_lead v k was in
              ap (option_map (λ h. h.value)) (rows_turn.1 k (λ same. other (one_value v k was same))) ∙ has
        ]
          where
            none_some : None ≡ Some k → ⊥
            none_some e = cc

            one_value : (w l : ℕ) → keys w ≡ Some l → l ≡ key → w ≡ value
            one_value w l was same =
                let has : option_map (λ h. h.value) (rows l) ≡ Some w = is.values_lead w l was in
                let own : option_map (λ h. h.value) (rows key) ≡ Some value = is.values_lead value key leads in
                let rows_same : option_map (λ h. h.value) (rows l) ≡ option_map (λ h. h.value) (rows key) = ap (λ x. option_map (λ h. h.value) (rows x)) same in
                cc

  -- ---- a handle comes

  module _ (held : Held) (key : ℕ) (newest : All (λ h. h.order < held.order) (handles_of rows opened)) (vacant : rows key ≡ None)
      (more : Rows) (rows_turn : Turns rows more key (Some held)) where
    abbrev pub own : Opening
    own = record { order = held.order; key = key }

    before : All (λ o. o.order < held.order) opened
    before = is.newest held.order newest

    same_held : (opening : Opening) → opening.order < held.order → held_by more opening ≡ held_by rows opening
    same_held opening earlier = elim (cases_eq opening.key key) [
      | inl same ↦
          ap (of_order opening.order) (ap more same ∙ rows_turn.0)
          ∙ ap (λ b. cond b (Some held) None) (differ held.order opening.order (λ one. later one))
          ∙ sym (ap (of_order opening.order) (ap rows same ∙ vacant))
      | inr other ↦ ap (of_order opening.order) (rows_turn.1 opening.key other)
    ]
      where
        later : held.order ≡ opening.order → ⊥
        later one = omega (arith, one, earlier)

    same_handles : handles_of more opened ≡ handles_of rows opened
    same_handles = filter_map_agree (held_by more) (held_by rows) opened (λ k d below. same_held (get_or opened k d) (before k d below))

    own_held : held_by more own ≡ Some held
    own_held = own_opening more key held rows_turn.0

    pub handles_put : handles_of more (opened ++ own ∷ []) ≡ handles_of rows opened ++ held ∷ []
    handles_put =
        filter_map-append (held_by more) opened (own ∷ [])
        ∙ ap (λ hs. hs ++ handles_of more (own ∷ [])) same_handles
        ∙ ap (λ o. handles_of rows opened ++ cons_option o []) own_held

    pub put_kept : (keys_more : ℕ → Option ℕ) (greater : ℕ) → IsHandleValue held.value → keys held.value ≡ None → Turns keys keys_more held.value (Some key)
        → greater ≡ count + 1 → IsKept more keys_more (opened ++ own ∷ []) greater
    put_kept keys_more greater value unused keys_turn one_more = record {
      rows_lead = all_lead;
      values_lead = values_all_lead;
      rising = all_pairs_push (λ a b. a.order < b.order) opened own is.rising before;
      first = first_put rows more own held own_held opened (λ k d below. same_held (get_or opened k d) (before k d below)) is.first is.newest handles_put;
      newest = newest_put;
      as_many =
          let long : length (handles_of more (opened ++ own ∷ [])) ≡ length (handles_of rows opened ++ held ∷ []) = ap length handles_put in
          let many : count ≡ length (handles_of rows opened) = is.as_many in
          omega (arith, long, many, one_more, length_push (handles_of rows opened) held);
      few = let was : length opened ≤ 2 * count + 1 = is.few in omega (arith, was, one_more, length_push opened own);
    }
      where
        all_lead : (k : ℕ) (h : Held) → more k ≡ Some h
            → (keys_more h.value ≡ Some k) × IsHandleValue h.value × Contains (opened ++ own ∷ []) (record { order = h.order; key = k })
        all_lead k h row = elim (cases_eq k key) [
          | inl same ↦
              let both : Some held ≡ Some h = sym rows_turn.0 ∙ ap more (sym same) ∙ row in
              let it : held ≡ h = cc in
              subst (λ (x : Held). (keys_more x.value ≡ Some k) × IsHandleValue x.value × Contains (opened ++ own ∷ []) (record { order = x.order; key = k })) it (
                keys_turn.0 ∙ ap Some (sym same),
                value,
                subst (λ (l : ℕ). Contains (opened ++ own ∷ []) (record { order = held.order; key = l })) (sym same) (Contains-push opened own),
              )
          | inr other ↦
              let was : rows k ≡ Some h = sym (rows_turn.1 k other) ∙ row in
              let says = is.rows_lead k h was in (
                keys_turn.1 h.value (λ same. taken h says.0 same) ∙ says.0,
                says.1,
                Contains-append_left opened (own ∷ []) (record { order = h.order; key = k }) says.2,
              )
        ]
          where
            taken : (x : Held) → keys x.value ≡ Some k → x.value ≡ held.value → ⊥
            taken x leads same = let one : keys x.value ≡ keys held.value = ap keys same in cc

        values_all_lead : (v k : ℕ) → keys_more v ≡ Some k → option_map (λ h. h.value) (more k) ≡ Some v
        values_all_lead v k found = elim (cases_eq v held.value) [
          | inl same ↦ new_one same
          | inr other ↦
              let was : keys v ≡ Some k = sym (keys_turn.1 v other) ∙ found in
              let has : option_map (λ h. h.value) (rows k) ≡ Some v = is.values_lead v k was in
              ap (option_map (λ h. h.value)) (rows_turn.1 k (λ same. empty same has)) ∙ has
        ]
          where
            new_one : v ≡ held.value → option_map (λ h. h.value) (more k) ≡ Some v
            new_one same =
                let both : Some key ≡ Some k = sym keys_turn.0 ∙ ap keys_more (sym same) ∙ found in
                let one : key ≡ k = cc in
                ap (λ l. option_map (λ h. h.value) (more l)) (sym one) ∙ ap (option_map (λ h. h.value)) rows_turn.0 ∙ ap Some (sym same)

            empty : k ≡ key → option_map (λ h. h.value) (rows k) ≡ Some v → ⊥
            empty same has =
                let none : rows k ≡ None = ap rows same ∙ vacant in
                let both : option_map (λ h. h.value) (rows k) ≡ None = ap (option_map (λ h. h.value)) none in
                cc

        newest_put : NoneIsNewer more (opened ++ own ∷ [])
        newest_put order above =
            let all : All (λ h. h.order < order) (handles_of rows opened ++ held ∷ []) = subst (All (λ h. h.order < order)) handles_put above in
            let last : held.order < order = All-contains (λ h. h.order < order) (handles_of rows opened ++ held ∷ []) held all (Contains-push (handles_of rows opened) held) in
            All-push (λ o. o.order < order) opened own (λ k d below. earlier (get_or opened k d) (before k d below) last) last
          where
            earlier : (o : Opening) → o.order < held.order → held.order < order → o.order < order
            earlier o less last = omega (arith, less, last)
