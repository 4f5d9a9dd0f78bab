-- The list has every row's stamp, so each row that remains is one of the state's.
use Rattle.std.proofs.Common.{◌<◌, ℕ, List, All, Contains, ap, subst, sym}
use Rattle.ob_model.specs.declared.state.Row.{Row}
use Rattle.ob_mirror.specs.Mirrored.{Mirrored}
use Rattle.ob_mirror.proofs.Following.{all_follow}
use Rattle.ob_mirror.proofs.mirror.Mirror.take_lost.Goals as goal

pub take_each_lost-requires-clause-stamps : goal.take_each_lost-requires-clause-stamps
take_each_lost-requires-clause-stamps g c κs within =
    subst (λ (rows : List Row). All (λ r. Contains c.as_slice.result.now r.stamp) rows) (ap (λ (m : Mirrored). m.rows) c.self.view_is)
    (subst (λ (stamps : List ℕ). All (λ (r : Row). Contains stamps r.stamp) c.self.inside.rows) (sym c.as_slice.ensures.value) c.in_ok-stamps.ensures)

pub returns-clause-all : goal.returns-clause-all
returns-clause-all g c =
    let left = c.take_each_lost.new.self in
    all_follow c.args.core.now c.state_is_sound.ensures c.requires.order left.rows left.next c.take_each_lost.ensures.follows c.rows_rise.ensures
    (subst (λ n. All (λ (row : Row). row.object < n) c.args.core.now.rows) (sym c.take_each_lost.ensures.next) c.requires.all) c.in_ok-take_each_lost.ensures.own
