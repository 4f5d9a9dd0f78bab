-- One object further back has its turn.
use Rattle.std.proofs.Common.{◌∙◌, ap, sym, subst}
use Rattle.ob_handles.specs.Counts.{is_listed}
use Rattle.ob_life.proofs.Judged.{Judged, may_left}
use Rattle.ob_life.proofs.Turns.{sound_fit, had_turn, no_map, map_settled, any_turn, all_turned}
use Rattle.ob_life.specs.Settling.{with_shadow_settled}
use Rattle.ob_life.proofs.Walked.{may_orderly, may_unless, settled_is_orderly}
use Rattle.ob_life.proofs.settle.settle_after_end.Goals as goal
use Rattle.ob_life.proofs.settle.settle_after_end.Goals.{in-Some, in_default}

pub loop-id-init : goal.loop-id-init
loop-id-init g c =
    subst (λ n. Judged g.T.TypeSet.procedures c.args.space.now (had_turn c.args.space.now (is_listed c.args.touched.now) n) c.match-map.space)
    (ap (λ s. s.next_id) (sym c.space.view_is)) (
    elim c.match-map.branch [
      | in-Some w ↦ map_settled g.T.TypeSet.procedures g.T.TypeSet.idle c.args.space.now c.requires.orderly (sound_fit c.args.space.now c.requires.sound) (is_listed c.args.touched.now) c.args.map c.requires.kept
          c.args.space.now.next_id (λ o less _. less) w.in-Some.directory w.in-Some.is c.match-map.space
          (w.space-is ∙ w.settle_shadow.ensures
          ∙ (λ i. with_shadow_settled g.T.TypeSet.procedures (is_listed c.args.touched.now) (w.settle_untouched-shadow.ensures.settled i) (w.settle_untouched-shadow.ensures.shadow i)))
      | in_default w ↦ subst (λ t. Judged g.T.TypeSet.procedures c.args.space.now (had_turn c.args.space.now (is_listed c.args.touched.now) c.args.space.now.next_id) t)
          (sym w.space-is) (no_map g.T.TypeSet.procedures g.T.TypeSet.idle c.args.space.now c.requires.orderly (sound_fit c.args.space.now c.requires.sound) (is_listed c.args.touched.now) c.args.map c.requires.kept
          c.args.space.now.next_id (λ o less _. less) w.in_default.is)
    ])

pub settle_shadow-requires-after_bounds : goal.settle_shadow-requires-after_bounds
settle_shadow-requires-after_bounds g c κs within =
    may_unless g.T.TypeSet.procedures g.T.TypeSet.idle c.args.space.now (is_listed c.args.touched.now) c.in-Some.directory (may_orderly g.T.TypeSet.idle c.args.space.now c.requires.orderly)
    c.settle_untouched-shadow.new.space c.settle_untouched-shadow.ensures.settled

pub settle_in_turn-requires-after_bounds : goal.settle_in_turn-requires-after_bounds
settle_in_turn-requires-after_bounds g c κs within =
    may_left g.T.TypeSet.procedures c.args.space.now (had_turn c.args.space.now (is_listed c.args.touched.now) c.loop-id.bound)
    c.loop-id.space c.loop-id.invariant g.T.TypeSet.idle (may_orderly g.T.TypeSet.idle c.args.space.now c.requires.orderly)

pub loop-id-preserved : goal.loop-id-preserved
loop-id-preserved g c =
    let last = c.in-Some-last_before.ensures in
    any_turn g.T.TypeSet.procedures g.T.TypeSet.idle c.args.space.now c.requires.orderly (sound_fit c.args.space.now c.requires.sound) (is_listed c.args.touched.now) c.args.map c.requires.kept
    c.loop-id.bound c.in-Some-last_before.id last.0 last.1 last.2 c.loop-id.space c.loop-id.invariant c.settle_in_turn.new.space c.settle_in_turn.ensures

pub returns-clause-orderly : goal.returns-clause-orderly
returns-clause-orderly g c =
    settled_is_orderly g.T.TypeSet.procedures g.T.TypeSet.idle c.args.space.now c.requires.orderly c.loop-id.space
    (all_turned g.T.TypeSet.procedures g.T.TypeSet.idle c.args.space.now c.requires.orderly (sound_fit c.args.space.now c.requires.sound) (is_listed c.args.touched.now) c.args.map c.requires.kept c.loop-id.bound c.in_default-last_before.ensures c.loop-id.space c.loop-id.invariant)

pub returns-clause-settled : goal.returns-clause-settled
returns-clause-settled g c =
    all_turned g.T.TypeSet.procedures g.T.TypeSet.idle c.args.space.now c.requires.orderly (sound_fit c.args.space.now c.requires.sound) (is_listed c.args.touched.now) c.args.map c.requires.kept c.loop-id.bound c.in_default-last_before.ensures c.loop-id.space c.loop-id.invariant
