-- The count at the object's place becomes one more, and is its own.
use Rattle.std.proofs.Common.{◌+◌, ◌≤◌, vec_capacity, ap, sym, subst}
use Rattle.indexmap.proofs.CallerLemmas.{index_map_len-with_value_at}
use Rattle.ob_model.specs.State.{greatest_number}
use Rattle.ob_handles.specs.Counts.{count_of}
use Rattle.ob_handles.proofs.Counted.{one_more, count_there, fits_next}
use Rattle.ob_handles.proofs.counts.Counts.add.Goals as goal

pub overflow_add-count : goal.overflow_add-count
overflow_add-count c =
    let is = count_there c.self.inside.numbers.entries c.args.object c.in-Some.place c.in-Some-get_index_mut.count.now c.in-Some.ensures c.in-Some-get_index_mut.ensures.value in
    let room = subst (λ numbers. count_of numbers c.args.object ≤ greatest_number) (sym c.self.view_is) c.requires.room in
    fits_next c.in-Some-get_index_mut.count.now (count_of c.self.inside.numbers.entries c.args.object) is room

pub invariant_of-self-2 : goal.invariant_of-self-2
invariant_of-self-2 c = (
  c.self.invariant.0,
  subst (λ n. n ≤ vec_capacity c.self.inside.room) (sym (index_map_len-with_value_at c.self.inside.numbers c.in-Some.place (c.in-Some-get_index_mut.count.now + 1))) c.self.invariant.1,
)

pub returns-clause-counted : goal.returns-clause-counted
returns-clause-counted c =
    one_more c.self.inside.numbers c.get_index_mut.ensures.unique c.args.self.now c.self.view_is c.args.object c.in-Some.place (c.in-Some-get_index_mut.count.now + 1) c.in-Some.ensures
    (ap (λ n. n + 1) (count_there c.self.inside.numbers.entries c.args.object c.in-Some.place c.in-Some-get_index_mut.count.now c.in-Some.ensures c.in-Some-get_index_mut.ensures.value))
