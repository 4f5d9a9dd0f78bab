-- What the calls of a table's parts give, of the table as it is seen.
use Rattle.std.proofs.Common.{◌≡◌, ◌∙◌, ℕ, ◌+◌, ◌*◌, ◌<◌, ◌≤◌, ◌==◌, eqb, ltb, Bool, true, false, not, cond, List, [], ◌∷◌, ◌++◌, length, slice_get, find, Option, None, Some, is_some, All, refl, ap, sym, subst, ltb-true, true≢false, Result, Ok, Err, OnErr, OnSome}
use Rattle.std.specs.Map.{lookup}
use Rattle.std.specs.Option.{option_and_then}
use Rattle.ob_model.specs.declared.state.Held.{Held}
use Rattle.ob_model.specs.Grants.{IsHandleValue}
use Rattle.ob_model.proofs.Finds.{filter_all}
use Rattle.ob_handles.specs.Table.{IsTable, IsUnused, without}
use Rattle.ob_handles.specs.declared.openings.Opening.{Opening}
use Rattle.ob_handles.specs.Openings.{Rows, held_by, handles_of, LeadsToFirst, NoneIsNewer, OnlyStaleGo}
use Rattle.ob_handles.specs.Kept.{IsInRows}
use Rattle.ob_handles.specs.Values.{Turns, row_of, key_in}
use Rattle.ob_handles.proofs.Foreign.{keys_put, apart_put, keys_taken, apart_taken}
use Rattle.ob_handles.proofs.SlabPlaces.{row_value}
use Rattle.ob_handles.proofs.SlabTables.{row_of_value, found_by_value, leads_nowhere_unused, unused_leads_nowhere, no_handle_has, one_less, taken_kept, handles_put, put_kept, is_table}

-- the keys under the values
abbrev pub under : List (ℕ × ℕ) → ℕ → Option ℕ
under es value = lookup (eqb value) es

-- a table whose parts say the same
abbrev pub IsInside : Rows → List (ℕ × ℕ) → List Opening → ℕ → Type 0
IsInside rows es opened count = IsInRows rows (under es) opened count

-- where the values lead
abbrev pub leads : Rows → List (ℕ × ℕ) → ℕ → Option ℕ
leads rows es = key_in rows (under es)

-- what a test for nothing says
pub none_of : {X : Type 0} (o : Option X) (b : Bool) → is_some o ≡ not b → b ≡ true → o ≡ None
none_of None b test holds = refl
none_of (Some x) b test holds = absurd (true≢false (test ∙ ap not holds))

pub some_of : {X : Type 0} (o : Option X) (b : Bool) → is_some o ≡ not b → b ≡ false → is_some o ≡ true
some_of o b test fails = test ∙ ap not fails

-- where an error is told that nothing changed, nothing did
pub on_err : {T E P : Type 0} (r : Result T E) → P → OnErr r P
on_err (Ok x) unchanged = tt
on_err (Err e) unchanged = unchanged

-- parts that are as they were
pub inside_stays : (rows new_rows : Rows) (es new_es : List (ℕ × ℕ)) (opened new_opened : List Opening) (count new_count : ℕ) → new_rows ≡ rows → new_es ≡ es
    → new_opened ≡ opened → new_count ≡ count → IsInside rows es opened count → IsInside new_rows new_es new_opened new_count
inside_stays rows new_rows es new_es opened new_opened count new_count same_rows same_es same_opened same_count is =
    subst (λ (r : Rows). IsInside r new_es new_opened new_count) (sym same_rows)
    (subst (λ (e : List (ℕ × ℕ)). IsInside rows e new_opened new_count) (sym same_es)
    (subst (λ (o : List Opening). IsInside rows es o new_count) (sym same_opened) (subst (λ (n : ℕ). IsInside rows es opened n) (sym same_count) is)))

pub handles_stay : (rows new_rows : Rows) (opened new_opened : List Opening) (now : List Held) → new_rows ≡ rows → new_opened ≡ opened → handles_of rows opened ≡ now
    → handles_of new_rows new_opened ≡ now
handles_stay rows new_rows opened new_opened now same_rows same_opened same =
    ap (λ (r : Rows). handles_of r new_opened) same_rows ∙ ap (handles_of rows) same_opened ∙ same

-- the value of a row, where it is told, is a handle value
pub value_of_row : (key value : ℕ) → Some value ≡ cond (ltb key 65535) (Some (4 * (key + 1))) None → IsHandleValue value
value_of_row key value is = go (ltb key 65535) refl is
  where
    go : (b : Bool) → ltb key 65535 ≡ b → Some value ≡ cond b (Some (4 * (key + 1))) None → IsHandleValue value
    go true below told =
        let it : value ≡ 4 * (key + 1) = cc in
        subst IsHandleValue (sym it) (row_value key (ltb-true key 65535 below))
    go false above told = cc

module _ (rows : Rows) (es : List (ℕ × ℕ)) (opened : List Opening) (count : ℕ) (is : IsInside rows es opened count) (now : List Held) (same : handles_of rows opened ≡ now) where
  pub as_many_now : count ≡ length now
  as_many_now = is.kept.as_many ∙ ap length same

  pub table_now : IsTable now
  table_now = subst IsTable same (is_table rows (leads rows es) opened count is.kept)

  pub unused_now : (value : ℕ) → IsHandleValue value → leads rows es value ≡ None → IsUnused now value
  unused_now value value_is none =
      (value_is, sym (ap (find (λ h. h.value == value)) same) ∙ leads_nowhere_unused rows (leads rows es) opened count is.kept value none)

  pub first_now : (o : Option Opening) → slice_get opened 0 ≡ o → option_and_then (held_by rows) o ≡ slice_get now 0
  first_now o first = ap (option_and_then (held_by rows)) (sym first) ∙ sym is.kept.first ∙ ap (λ hs. slice_get hs 0) same

  pub unused_inside : (key value : ℕ) → key ≡ value → IsUnused now value → leads rows es key ≡ None
  unused_inside key value is_value unused =
      ap (leads rows es) is_value ∙ unused_leads_nowhere rows (leads rows es) opened count is.kept value (ap (find (λ h. h.value == value)) same ∙ unused.1)

  module _ (key value : ℕ) (is_value : key ≡ value) where
    pub nothing_found : leads rows es key ≡ None → None ≡ find (λ h. h.value == value) now
    nothing_found none =
        sym (leads_nowhere_unused rows (leads rows es) opened count is.kept key none) ∙ ap (find (λ h. h.value == key)) same ∙ ap (λ v. find (λ h. h.value == v) now) is_value

    pub something_found : (row : ℕ) (found : Option Held) → leads rows es key ≡ Some row → found ≡ rows row → found ≡ find (λ h. h.value == value) now
    something_found row found led e =
        e ∙ sym (ap (option_and_then rows) led) ∙ sym (found_by_value rows (leads rows es) opened count is.kept key) ∙ ap (find (λ h. h.value == key)) same
        ∙ ap (λ v. find (λ h. h.value == v) now) is_value

    -- a row that a value leads to has a handle to give
    pub one_fewer : (row : ℕ) → leads rows es key ≡ Some row → (taken : Option Held) → taken ≡ rows row → {P : Type 0} → OnSome taken P → P
    one_fewer row led None e less =
        let held : (h : Held) × (rows row ≡ Some h) × (h.value ≡ key) = row_of_value rows (leads rows es) opened count is.kept key row led in
        absurd (none_some (e ∙ held.1))
      where
        none_some : {h : Held} → None ≡ Some h → ⊥
        none_some same = cc
    one_fewer row led (Some h) e less = less

    pub nothing_taken : leads rows es key ≡ None → now ≡ without now value
    nothing_taken none =
        sym same
        ∙ sym (filter_all (λ h. not (h.value == key)) (handles_of rows opened) (λ k d below. ap not (no_handle_has rows (leads rows es) opened count is.kept key none k d below)))
        ∙ ap (λ hs. without hs key) same ∙ ap (without now) is_value

    module _ (row : ℕ) (led : leads rows es key ≡ Some row) (left : Rows) (rows_turn : Turns rows left row None) (openings : List Opening) (goes : OnlyStaleGo left opened openings) where
      pub something_taken : handles_of left openings ≡ without now value
      something_taken =
          goes.handles ∙ one_less rows (leads rows es) opened count is.kept key row led left rows_turn ∙ ap (λ hs. without hs key) same ∙ ap (without now) is_value

      pub taken_inside : (es_left : List (ℕ × ℕ)) → Turns (under es) (under es_left) key (cond (row == row_of key) (under es key) None)
          → LeadsToFirst left openings → NoneIsNewer left openings → (handles fewer : ℕ) → handles ≡ fewer
          → (length (handles_of left opened) ≤ handles → length openings ≤ 2 * handles + 1) → fewer + 1 ≡ count → IsInside left es_left openings fewer
      taken_inside es_left forgot first newest handles fewer counted few less = record {
        kept =
            taken_kept rows (leads rows es) opened count is.kept key row led left rows_turn (leads left es_left) openings fewer
            (keys_taken rows (under es) opened count is key row led left rows_turn (under es_left) forgot) goes first newest
            (subst (λ (n : ℕ). length (handles_of left opened) ≤ n → length openings ≤ 2 * n + 1) counted few) less;
        apart = apart_taken rows (under es) opened count is key row led left rows_turn (under es_left) forgot;
      }

  -- a handle comes under the key of a row that is vacant
  module _ (held : Held) (unused : IsUnused now held.value) (newest : All (λ h. h.order < held.order) now) (key : ℕ) (reserved : Rows) (same_rows : reserved ≡ rows)
      (vacant : reserved key ≡ None) (more : Rows) (rows_turn : Turns reserved more key (Some held)) (openings : List Opening)
      (put : openings ≡ opened ++ record { order = held.order; key = key } ∷ []) where
    newest_inside : All (λ h. h.order < held.order) (handles_of rows opened)
    newest_inside = subst (All (λ h. h.order < held.order)) (sym same) newest

    vacant_inside : rows key ≡ None
    vacant_inside = subst (λ (r : Rows). r key ≡ None) same_rows vacant

    turn_inside : Turns rows more key (Some held)
    turn_inside = subst (λ (r : Rows). Turns r more key (Some held)) same_rows rows_turn

    pub put_last : handles_of more openings ≡ now ++ held ∷ []
    put_last =
        ap (handles_of more) put ∙ handles_put rows (leads rows es) opened count is.kept held key newest_inside vacant_inside more turn_inside ∙ ap (λ hs. hs ++ held ∷ []) same

    pub put_inside : (value : ℕ) → value ≡ held.value → (es_more : List (ℕ × ℕ))
        → Turns (under es) (under es_more) value (cond (key == row_of value) (under es value) (Some key)) → (greater : ℕ) → greater ≡ count + 1
        → IsInside more es_more openings greater
    put_inside value is_value es_more noted greater one_more =
        subst (λ (o : List Opening). IsInside more es_more o greater) (sym put) (record {
          kept =
              put_kept rows (leads rows es) opened count is.kept held key newest_inside vacant_inside more turn_inside (leads more es_more) greater unused.0 nowhere
              (keys_put rows (under es) opened count is held key nowhere vacant_inside more turn_inside (under es_more) noted_inside) one_more;
          apart = apart_put rows (under es) opened count is held key nowhere vacant_inside more turn_inside (under es_more) noted_inside;
        })
      where
        nowhere : leads rows es held.value ≡ None
        nowhere = unused_inside held.value held.value refl unused

        noted_inside : Turns (under es) (under es_more) held.value (cond (key == row_of held.value) (under es held.value) (Some key))
        noted_inside =
            subst (λ (v : ℕ). Turns (under es) (under es_more) v (cond (key == row_of v) (under es v) (Some key))) is_value noted
