-- The count at the object's place becomes less, and is its own; the same objects are listed.
use Rattle.std.proofs.Common.{◌∙◌, ◌-◌, ap, refl}
use Rattle.ob_handles.proofs.Counted.{less, listed_as_before, count_there}
use Rattle.ob_handles.proofs.touched.Touched.lower.Goals as goal

pub invariant_of-self : goal.invariant_of-self
invariant_of-self c = c.self.invariant

pub invariant_of-self-2 : goal.invariant_of-self-2
invariant_of-self-2 c = (
  c.self.invariant.0,
  λ object.
      listed_as_before c.self.inside.numbers c.get_index_mut.ensures.unique c.self.inside.numbers.entries refl c.args.object c.in-Some.place c.saturating_sub.result c.in-Some.ensures object
      ∙ c.self.invariant.1 object,
)

pub returns-clause-counted : goal.returns-clause-counted
returns-clause-counted c =
    less c.self.inside.numbers c.get_index_mut.ensures.unique c.args.self.now c.self.view_is c.args.object c.in-Some.place c.saturating_sub.result c.in-Some.ensures 1
    (c.saturating_sub.ensures ∙ ap (λ n. n - 1) (count_there c.self.inside.numbers.entries c.args.object c.in-Some.place c.in-Some-get_index_mut.count.now c.in-Some.ensures c.in-Some-get_index_mut.ensures.value))

pub returns-clause-listed : goal.returns-clause-listed
returns-clause-listed c = listed_as_before c.self.inside.numbers c.get_index_mut.ensures.unique c.args.self.now c.self.view_is c.args.object c.in-Some.place c.saturating_sub.result c.in-Some.ensures
