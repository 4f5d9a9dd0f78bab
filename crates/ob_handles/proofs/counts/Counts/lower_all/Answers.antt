-- One count after another is lowered, each of another object.
use Rattle.std.proofs.Common.{◌-◌, ◌∙◌, sym, ap, subst}
use Rattle.ob_model.proofs.Ids.{Differ}
use Rattle.ob_handles.specs.Counts.{Numbers, count_of}
use Rattle.ob_handles.proofs.Counted.{differ}
use Rattle.ob_handles.proofs.Lowered.{one_lowered}
use Rattle.ob_handles.proofs.counts.Counts.lower_all.Goals as goal

pub loop-object-init : goal.loop-object-init
loop-object-init c =
    let all = c.into_iter-object-iterator.ensures.into_iter_gives ∙ c.iter-object-items.ensures.rest in
    record {
      differ = subst (λ (n : Numbers). Differ n) (sym all) (differ c.others.inside.numbers.entries c.iter-object-items.ensures.unique);
      left = λ object. ap (λ (n : Numbers). count_of c.args.self.now object - count_of n object) (all ∙ c.others.view_is);
    }

pub loop-object-preserved : goal.loop-object-preserved
loop-object-preserved c = record {
  differ = (subst (λ (n : Numbers). Differ n) c.in-Some.ensures.steps c.loop-object.invariant.differ).1;
  left = one_lowered c.loop-object.object-iterator c.next.new.self c.loop-object.self c.lower_by.new.self (λ o. count_of c.args.self.now o - count_of c.args.others.now o)
      c.in-Some.object.now c.in-Some.less.now c.in-Some.ensures.steps c.loop-object.invariant.differ c.lower_by.ensures.counted c.loop-object.invariant.left;
}
