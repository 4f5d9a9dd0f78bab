-- All are put in, and stand in order then.
use Rattle.std.proofs.Common.{◌∙◌, ◌==◌, ◌++◌, ap, sym, rules}
use Rattle.std.proofs.lemmas.List.Sorted.{IsNonDecreasingBy-from_sort, list_any-IsPermutation}
use Rattle.std.specs.List.{list_any}
use Rattle.ob_handles.proofs.Counted.{listed_in}
use Rattle.ob_handles.proofs.places.in_order.Goals as goal

pub returns : goal.returns
returns c = (
  IsNonDecreasingBy-from_sort (λ x. x) c.sort_unstable.new.self.items c.sort_unstable.ensures.sorted,
  λ object.
      listed_in object c.args.numbers.now.entries
      ∙ ap (list_any (λ id. id == object))
      (sym c.loop-id.invariant.all ∙ ap (λ rest. c.loop-id.ids.items ++ rest) c.in-None.ensures.steps.0 ∙ search rules)
      ∙ list_any-IsPermutation (λ id. id == object) c.loop-id.ids.items c.sort_unstable.new.self.items c.sort_unstable.ensures.permutation,
)
