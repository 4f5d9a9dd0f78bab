-- Rows that are collected object by object.
use Rattle.std.proofs.Common.{◌≡◌, ◌∙◌, ℕ, ◌+◌, ◌<◌, List, [], ◌∷◌, ◌++◌, length, get_or, take, refl, ap, sym, map, Option, Some, None}
use Rattle.std.specs.List.{filter_map, cons_option}
use Rattle.std.proofs.lemmas.List.{take_more, map-append, append-nil}
use Rattle.std.proofs.lemmas.List.Elements.{filter_map-append}
use Rattle.ob_model.specs.declared.state.Row.{Row}
use Rattle.ob_tree.specs.declared.entries.Entry.{Entry}
use Rattle.ob_tree.specs.declared.survey.Seen.{Seen}
use Rattle.ob_tree.specs.Index.{Named, named_by}
use Rattle.ob_tree.specs.Tree.{entry_of}

module _ (objects : List Seen) (i : ℕ) (x : Seen) (within : i < length objects) (at : x ≡ get_or objects i x) where
  rows_more : filter_map (λ (y : Seen). y.row) (take (i + 1) objects) ≡ filter_map (λ (y : Seen). y.row) (take i objects) ++ filter_map (λ (y : Seen). y.row) (x ∷ [])
  rows_more =
      ap (filter_map (λ (y : Seen). y.row)) (take_more objects i x within ∙ ap (λ (y : Seen). take i objects ++ y ∷ []) (sym at))
      ∙ filter_map-append (λ (y : Seen). y.row) (take i objects) (x ∷ [])

  abbrev one : (row : Option Row) → List Row
  one None = []
  one (Some r) = r ∷ []

  own_row : filter_map (λ (y : Seen). y.row) (x ∷ []) ≡ one x.row
  own_row = go x.row refl
    where
      go : (row : Option Row) → x.row ≡ row → filter_map (λ (y : Seen). y.row) (x ∷ []) ≡ one row
      go None e = ap (λ (row : Option Row). cons_option row []) e
      go (Some r) e = ap (λ (row : Option Row). cons_option row []) e

  pub with_row : (es fs : List Entry) (r : Row) (e : Entry) → map named_by es ≡ map entry_of (filter_map (λ (y : Seen). y.row) (take i objects))
      → fs ≡ es ++ e ∷ [] → x.row ≡ Some r → named_by e ≡ entry_of r → map named_by fs ≡ map entry_of (filter_map (λ (y : Seen). y.row) (take (i + 1) objects))
  with_row es fs r e so_far pushed has same =
      ap (map named_by) pushed ∙ map-append named_by es (e ∷ []) ∙ ap (λ (ns : List Named). ns ++ named_by e ∷ []) so_far
      ∙ ap (λ (n : Named). map entry_of (filter_map (λ (y : Seen). y.row) (take i objects)) ++ n ∷ []) same
      ∙ sym (ap (map entry_of) (rows_more ∙ ap (λ (rs : List Row). filter_map (λ (y : Seen). y.row) (take i objects) ++ rs) (own_row ∙ ap one has)) ∙ map-append entry_of (filter_map (λ (y : Seen). y.row) (take i objects)) (r ∷ []))

  pub without_row : (ns : List Named) → ns ≡ map entry_of (filter_map (λ (y : Seen). y.row) (take i objects)) → x.row ≡ None → ns ≡ map entry_of (filter_map (λ (y : Seen). y.row) (take (i + 1) objects))
  without_row ns so_far has =
      so_far ∙ sym (ap (map entry_of) (rows_more ∙ ap (λ (rs : List Row). filter_map (λ (y : Seen). y.row) (take i objects) ++ rs) (own_row ∙ ap one has) ∙ append-nil (filter_map (λ (y : Seen). y.row) (take i objects))))
