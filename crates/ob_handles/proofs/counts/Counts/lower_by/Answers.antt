-- The count at the object's place becomes less, and is its own.
use Rattle.std.proofs.Common.{◌∙◌, ◌-◌, ◌≤◌, vec_capacity, ap, sym, subst}
use Rattle.indexmap.proofs.CallerLemmas.{index_map_len-with_value_at}
use Rattle.ob_handles.proofs.Counted.{less, count_there}
use Rattle.ob_handles.proofs.counts.Counts.lower_by.Goals as goal

pub invariant_of-self-2 : goal.invariant_of-self-2
invariant_of-self-2 c = (
  c.self.invariant.0,
  subst (λ n. n ≤ vec_capacity c.self.inside.room) (sym (index_map_len-with_value_at c.self.inside.numbers c.in-Some.place c.saturating_sub.result)) c.self.invariant.1,
)

pub returns : goal.returns
returns c = record {
  counted =
      less c.self.inside.numbers c.get_index_mut.ensures.unique c.args.self.now c.self.view_is c.args.object c.in-Some.place c.saturating_sub.result c.in-Some.ensures c.args.less
      (c.saturating_sub.ensures ∙ ap (λ n. n - c.args.less) (count_there c.self.inside.numbers.entries c.args.object c.in-Some.place c.in-Some-get_index_mut.count.now c.in-Some.ensures c.in-Some-get_index_mut.ensures.value));
}
