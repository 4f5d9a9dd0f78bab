-- The rows of one stamp more are the state's own.
use Rattle.std.proofs.Common.{◌≡◌, ◌∙◌, All, Contains, arith, below_more, get_or, refl}
use Rattle.std.proofs.lemmas.List.Elements.{All-contains_itself}
use Rattle.ob_model.specs.declared.state.Row.{Row}
use Rattle.ob_mirror.proofs.Following.{all_own, fewer_keep}
use Rattle.ob_mirror.proofs.Leading.{leads_on}
use Rattle.ob_mirror.proofs.mirror.Mirror.take_each_lost.Goals as goal

pub loop-stamp-init : goal.loop-stamp-init
loop-stamp-init g c = record {
  follows = c.requires.follows;
  listed = λ base led. led;
  next = refl;
  fewer = All-contains_itself c.args.self.now.rows;
  own = λ k below. absurd (omega (arith, below));
}

pub loop-stamp-preserved : goal.loop-stamp-preserved
loop-stamp-preserved g c =
    let was = c.loop-stamp.invariant in
    let made = c.take_if_lost.ensures in
    let rows = c.take_if_lost.new.self.rows in
    record {
      follows = made.follows;
      listed = leads_on c.args.self.now c.loop-stamp.self c.take_if_lost.new.self was.listed made.listed;
      next = made.next ∙ was.next;
      fewer = fewer_keep (Contains c.args.self.now.rows) c.loop-stamp.self.rows rows made.fewer was.fewer;
      own =
          below_more (λ k. All (λ (r : Row). r.stamp ≡ get_or c.args.stamps.now k 0 → Contains c.args.core.now.rows r) rows) c.loop-stamp.stamp-index
          (λ k below. fewer_keep (λ (r : Row). r.stamp ≡ get_or c.args.stamps.now k 0 → Contains c.args.core.now.rows r) c.loop-stamp.self.rows rows made.fewer (was.own k below)) c.in_ok-take_if_lost.ensures.own;
    }

pub returns-clause-own : goal.returns-clause-own
returns-clause-own g c =
    all_own c.args.core.now.rows c.args.self.now.rows c.loop-stamp.self.rows c.args.stamps.now c.loop-stamp.stamp-index c.loop-stamp-test.false c.requires.stamps c.loop-stamp.invariant.fewer
    c.loop-stamp.invariant.own
