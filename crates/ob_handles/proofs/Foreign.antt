-- Where values lead by rows and map together, and how that changes when a handle comes or goes.
use Rattle.std.proofs.Common.{◌≡◌, ◌≢◌, ◌∙◌, ℕ, ◌==◌, Bool, true, false, cond, List, Option, None, Some, refl, ap, sym, subst, inl, inr, eq-eqb, true≢false}
use Rattle.std.proofs.lemmas.Bool.{cases_eq}
use Rattle.ob_model.specs.declared.state.Held.{Held}
use Rattle.ob_handles.specs.declared.openings.Opening.{Opening}
use Rattle.ob_handles.specs.Openings.{Rows}
use Rattle.ob_handles.specs.Kept.{IsInRows}
use Rattle.ob_handles.specs.Values.{Turns, row_of, has_value, key_in}
use Rattle.ob_handles.proofs.SlabTables.{differ, row_of_value}

-- where a value leads nowhere, neither its own row nor the map has it
not_in_row : (b : Bool) (key : ℕ) (o : Option ℕ) → cond b (Some key) o ≡ None → b ≡ false
not_in_row true key o none = cc
not_in_row false key o none = refl

not_in_map : (b : Bool) (key : ℕ) (o : Option ℕ) → cond b (Some key) o ≡ None → o ≡ None
not_in_map true key o none = cc
not_in_map false key o none = none

-- a row turns, and the map where the row's value leads
module _ (rows more : Rows) (foreign others : ℕ → Option ℕ) (key value : ℕ) (rows_stay : (k : ℕ) → k ≢ key → more k ≡ rows k)
    (foreign_stays : (v : ℕ) → v ≢ value → others v ≡ foreign v) (old_own : (v : ℕ) → v ≢ value → has_value (rows key) v ≡ false)
    (new_own : (v : ℕ) → v ≢ value → has_value (more key) v ≡ false) where
  has_stays : (k v : ℕ) → v ≢ value → has_value (more k) v ≡ has_value (rows k) v
  has_stays k v differs = elim (cases_eq k key) [
    | inl same ↦
        ap (λ l. has_value (more l) v) same ∙ new_own v differs ∙ sym (old_own v differs) ∙ sym (ap (λ l. has_value (rows l) v) same)
    | inr other ↦ ap (λ o. has_value o v) (rows_stay k other)
  ]

  keys_stay : (v : ℕ) → v ≢ value → key_in more others v ≡ key_in rows foreign v
  keys_stay v differs =
      ap (λ b. cond b (Some (row_of v)) (others v)) (has_stays (row_of v) v differs)
      ∙ ap (cond (has_value (rows (row_of v)) v) (Some (row_of v))) (foreign_stays v differs)

  apart_stays : ((v : ℕ) → has_value (rows (row_of v)) v ≡ true → foreign v ≡ None)
      → (has_value (more (row_of value)) value ≡ true → others value ≡ None) → (v : ℕ) → has_value (more (row_of v)) v ≡ true → others v ≡ None
  apart_stays apart own v has = elim (cases_eq v value) [
    | inl same ↦ ap others same ∙ own (subst (λ x. has_value (more (row_of x)) x ≡ true) same has)
    | inr other ↦ foreign_stays v other ∙ apart v (sym (has_stays (row_of v) v other) ∙ has)
  ]

module _ (rows : Rows) (foreign : ℕ → Option ℕ) (opened : List Opening) (count : ℕ) (is : IsInRows rows foreign opened count) where
  -- ---- a handle comes

  module _ (held : Held) (key : ℕ) (unused : key_in rows foreign held.value ≡ None) (vacant : rows key ≡ None) (more : Rows)
      (rows_turn : Turns rows more key (Some held)) (others : ℕ → Option ℕ)
      (noted : Turns foreign others held.value (cond (key == row_of held.value) (foreign held.value) (Some key))) where
    not_own : has_value (rows (row_of held.value)) held.value ≡ false
    not_own = not_in_row (has_value (rows (row_of held.value)) held.value) (row_of held.value) (foreign held.value) unused

    not_foreign : foreign held.value ≡ None
    not_foreign = not_in_map (has_value (rows (row_of held.value)) held.value) (row_of held.value) (foreign held.value) unused

    was_empty : (v : ℕ) → v ≢ held.value → has_value (rows key) v ≡ false
    was_empty v differs = ap (λ o. has_value o v) vacant

    has_its_own : (v : ℕ) → v ≢ held.value → has_value (more key) v ≡ false
    has_its_own v differs = ap (λ o. has_value o v) rows_turn.0 ∙ differ held.value v (λ same. differs (sym same))

    put_leads : key_in more others held.value ≡ Some key
    put_leads = elim (cases_eq key (row_of held.value)) [
      | inl same ↦
          ap (λ b. cond b (Some (row_of held.value)) (others held.value))
          (ap (λ o. has_value o held.value) (ap more (sym same) ∙ rows_turn.0) ∙ eq-eqb held.value held.value refl) ∙ ap Some (sym same)
      | inr other ↦
          ap (λ b. cond b (Some (row_of held.value)) (others held.value))
          (ap (λ o. has_value o held.value) (rows_turn.1 (row_of held.value) (λ same. other (sym same))) ∙ not_own)
          ∙ noted.0 ∙ ap (λ b. cond b (foreign held.value) (Some key)) (differ key (row_of held.value) other)
    ]

    own_apart : has_value (more (row_of held.value)) held.value ≡ true → others held.value ≡ None
    own_apart has = elim (cases_eq key (row_of held.value)) [
      | inl same ↦ noted.0 ∙ ap (λ b. cond b (foreign held.value) (Some key)) (eq-eqb key (row_of held.value) same) ∙ not_foreign
      | inr other ↦
          absurd (true≢false (sym has ∙ ap (λ o. has_value o held.value) (rows_turn.1 (row_of held.value) (λ same. other (sym same))) ∙ not_own))
    ]

    pub keys_put : Turns (key_in rows foreign) (key_in more others) held.value (Some key)
    keys_put = (put_leads, keys_stay rows more foreign others key held.value rows_turn.1 noted.1 was_empty has_its_own)

    pub apart_put : (v : ℕ) → has_value (more (row_of v)) v ≡ true → others v ≡ None
    apart_put = apart_stays rows more foreign others key held.value rows_turn.1 noted.1 was_empty has_its_own is.apart own_apart

  -- ---- a handle goes

  module _ (value key : ℕ) (leads : key_in rows foreign value ≡ Some key) (left : Rows) (rows_turn : Turns rows left key None) (others : ℕ → Option ℕ)
      (forgot : Turns foreign others value (cond (key == row_of value) (foreign value) None)) where
    the_row : (held : Held) × (rows key ≡ Some held) × (held.value ≡ value)
    the_row = row_of_value rows (key_in rows foreign) opened count is.kept value key leads

    has_it : has_value (rows key) value ≡ true
    has_it = ap (λ o. has_value o value) the_row.1 ∙ eq-eqb the_row.0.value value the_row.2

    had_its_own : (v : ℕ) → v ≢ value → has_value (rows key) v ≡ false
    had_its_own v differs = ap (λ o. has_value o v) the_row.1 ∙ differ the_row.0.value v (λ same. differs (sym same ∙ the_row.2))

    is_empty : (v : ℕ) → v ≢ value → has_value (left key) v ≡ false
    is_empty v differs = ap (λ o. has_value o v) rows_turn.0

    forgotten : others value ≡ None
    forgotten = elim (cases_eq key (row_of value)) [
      | inl same ↦
          forgot.0 ∙ ap (λ b. cond b (foreign value) None) (eq-eqb key (row_of value) same)
          ∙ is.apart value (ap (λ k. has_value (rows k) value) (sym same) ∙ has_it)
      | inr other ↦ forgot.0 ∙ ap (λ b. cond b (foreign value) None) (differ key (row_of value) other)
    ]

    gone : has_value (left (row_of value)) value ≡ false
    gone = elim (cases_eq (row_of value) key) [
      | inl same ↦ ap (λ o. has_value o value) (ap left same ∙ rows_turn.0)
      | inr other ↦
          ap (λ o. has_value o value) (rows_turn.1 (row_of value) other) ∙ not_there other (has_value (rows (row_of value)) value) refl
    ]
      where
        not_there : row_of value ≢ key → (b : Bool) → has_value (rows (row_of value)) value ≡ b → has_value (rows (row_of value)) value ≡ false
        not_there other true has =
            let both : Some (row_of value) ≡ Some key = sym (ap (λ b. cond b (Some (row_of value)) (foreign value)) has) ∙ leads in
            let same : row_of value ≡ key = cc in
            absurd (other same)
        not_there other false has = has

    pub keys_taken : Turns (key_in rows foreign) (key_in left others) value None
    keys_taken = (
      ap (λ b. cond b (Some (row_of value)) (others value)) gone ∙ forgotten,
      keys_stay rows left foreign others key value rows_turn.1 forgot.1 had_its_own is_empty,
    )

    pub apart_taken : (v : ℕ) → has_value (left (row_of v)) v ≡ true → others v ≡ None
    apart_taken = apart_stays rows left foreign others key value rows_turn.1 forgot.1 had_its_own is_empty is.apart (λ has. forgotten)
