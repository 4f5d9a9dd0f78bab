-- What is kept is all but the counts of 0.
use Rattle.std.proofs.Common.{◌∙◌, ◌==◌, not, ap, rules}
use Rattle.indexmap.proofs.CallerLemmas.{filter-RetainsPairs}
use Rattle.ob_handles.specs.Counts.{Numbers, count_of}
use Rattle.ob_handles.proofs.Counted.{differ}
use Rattle.ob_handles.proofs.Zeros.{counts_stay}
use Rattle.ob_handles.proofs.counts.drop_zeros.Goals as goal

pub returns : goal.returns
returns c = record {
  few = c.retain.ensures.bound;
  counts = λ object.
      ap (λ (n : Numbers). count_of n object)
      (filter-RetainsPairs _ (λ e. not (e.1 == 0)) _ (λ k v b w g called. search rules) _ _ c.retain.ensures.filtered)
      ∙ counts_stay c.args.numbers.now.entries (differ c.args.numbers.now.entries c.requires) object;
}
