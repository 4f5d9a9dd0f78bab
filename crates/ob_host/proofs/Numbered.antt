-- What stands at a place of a list of kinds in their order.
use Rattle.std.proofs.Common.{◌≡◌, ◌∙◌, ℕ, ◌<◌, List, Option, None, Some, IfSome, Bor, map, length, get_or, sym, ap, subst, refl, zero-add}
use Rattle.std.specs.List.{range_with_len}
use Rattle.std.specs.Option.{option_map, option_copied}
use Rattle.std.specs.Slice.{IsItemAt}
use Rattle.std.proofs.lemmas.List.FromFn.{get_or-range_with_len}
use Rattle.std.proofs.lemmas.Option.{slice_get_read, slice_get-map, get_or_from_slice_get}
use Rattle.ob_host.specs.Kinds.{index_of, kind_count}
use Rattle.ob_host.specs.declared.kind.Kind.{Kind}

-- the list has every kind, each at the place that is its index
pub record IsNumbered (kinds : List Kind) : Type 0 where
  pub count : length kinds ≡ kind_count
  pub indices : map index_of kinds ≡ range_with_len 0 kind_count

kind_there : (kinds : List Kind) (i : ℕ) (kind : Kind) → IsNumbered kinds → i < length kinds → kind ≡ get_or kinds i kind → index_of kind ≡ i
kind_there kinds i kind is inside found =
    let before : i < kind_count = subst (λ n. i < n) is.count inside in
    let read = slice_get-map index_of kinds i ∙ ap (option_map index_of) (slice_get_read kinds (length kinds) i kind refl inside found) in
    sym (get_or_from_slice_get (map index_of kinds) i (index_of kind) 0 read) ∙ ap (λ indices. get_or indices i 0) is.indices ∙ get_or-range_with_len 0 kind_count i 0 before ∙ zero-add i

pub kind_at : (kinds : List Kind) (i : ℕ) (kind : Option (Bor Kind)) → IsNumbered kinds → IsItemAt kinds i kind → IfSome (option_copied kind) (λ k. index_of k ≡ i)
kind_at kinds i None is item = tt
kind_at kinds i (Some kind) is item = kind_there kinds i kind.now is item.3.0 item.1
