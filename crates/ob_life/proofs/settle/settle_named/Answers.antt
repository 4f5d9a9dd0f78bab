-- The object is settled, then the directory in which all its names lie, and then the shadows of both.
use Rattle.std.proofs.Common.{◌∙◌, ap, refl, sym}
use Rattle.ob_objects.specs.declared.standing.Standing.{Standing}
use Rattle.ob_objects.specs.Standing.{standing_among}
use Rattle.ob_handles.specs.Counts.{is_listed}
use Rattle.ob_space.proofs.Shown.{shown}
use Rattle.ob_life.specs.Settling.{with_shadow_settled}
use Rattle.ob_life.proofs.Walked.{may_then, may_unless, may_shadow, named_settled, unnamed_settled}
use Rattle.ob_life.proofs.settle.settle_named.Goals as goal
use Rattle.ob_life.proofs.settle.settle_named.Goals.{in-Some, in-None}

pub settle_untouched-other-requires-after_bounds : goal.settle_untouched-other-requires-after_bounds
settle_untouched-other-requires-after_bounds g c κs within =
    may_then g.T.TypeSet.procedures g.T.TypeSet.idle c.args.space.now c.args.id c.requires.may
    c.settle_unheld-own.new.space c.settle_unheld-own.ensures.settled

pub settle_shadow-requires-after_bounds : goal.settle_shadow-requires-after_bounds
settle_shadow-requires-after_bounds g c κs within =
    elim c.match-place.branch [
      | in-Some w ↦ may_unless g.T.TypeSet.procedures g.T.TypeSet.idle c.settle_unheld-own.new.space (is_listed c.args.touched.now) w.in-Some.place.directory
          (may_then g.T.TypeSet.procedures g.T.TypeSet.idle c.args.space.now c.args.id c.requires.may
          c.settle_unheld-own.new.space c.settle_unheld-own.ensures.settled)
          c.match-place.space (w.space-is ∙ w.settle_untouched-other.ensures.settled)
      | in-None w ↦ may_then g.T.TypeSet.procedures g.T.TypeSet.idle c.args.space.now c.args.id c.requires.may
          c.match-place.space (w.space-is ∙ c.settle_unheld-own.ensures.settled)
    ]

pub settle_shadow-requires-2-after_bounds : goal.settle_shadow-requires-2-after_bounds
settle_shadow-requires-2-after_bounds g c κs within =
    may_shadow g.T.TypeSet.procedures g.T.TypeSet.idle c.match-place.space (is_listed c.args.touched.now) c.settle_unheld-own.result
    (elim c.match-place.branch [
      | in-Some w ↦ may_unless g.T.TypeSet.procedures g.T.TypeSet.idle c.settle_unheld-own.new.space (is_listed c.args.touched.now) w.in-Some.place.directory
          (may_then g.T.TypeSet.procedures g.T.TypeSet.idle c.args.space.now c.args.id c.requires.may
          c.settle_unheld-own.new.space c.settle_unheld-own.ensures.settled)
          c.match-place.space (w.space-is ∙ w.settle_untouched-other.ensures.settled)
      | in-None w ↦ may_then g.T.TypeSet.procedures g.T.TypeSet.idle c.args.space.now c.args.id c.requires.may
          c.match-place.space (w.space-is ∙ c.settle_unheld-own.ensures.settled)
    ]) c.settle_shadow.new.space c.settle_shadow.ensures

pub returns : goal.returns
returns g c =
    elim c.match-place.branch [
      | in-Some w ↦ named_settled g.T.TypeSet.procedures c.args.space.now c.space.inside.store (shown c.space.inside.store (sym c.space.view_is) refl refl) c.len.ensures.store (is_listed c.args.touched.now) c.args.id
          c.settle_unheld-own.new.space c.settle_unheld-own.ensures.settled c.settle_unheld-own.result c.settle_unheld-own.ensures.shadow
          w.in-Some.place (sym (ap (λ (x : Standing). x.place) (c.requires.told ∙ ap (λ s. standing_among s.objects s.rows c.args.id) (sym c.space.view_is))) ∙ w.in-Some.is)
          c.match-place.space (w.space-is ∙ w.settle_untouched-other.ensures.settled) c.match-place.other (w.other-is ∙ w.settle_untouched-other.ensures.shadow)
          c.settle_shadow-2.new.space (c.settle_shadow-2.ensures ∙ ap (λ s. with_shadow_settled g.T.TypeSet.procedures (is_listed c.args.touched.now) s c.match-place.other) c.settle_shadow.ensures)
      | in-None w ↦ unnamed_settled g.T.TypeSet.procedures c.args.space.now c.space.inside.store (shown c.space.inside.store (sym c.space.view_is) refl refl) c.len.ensures.store (is_listed c.args.touched.now) c.args.id
          c.settle_unheld-own.new.space c.settle_unheld-own.ensures.settled c.settle_unheld-own.result c.settle_unheld-own.ensures.shadow
          (sym (ap (λ (x : Standing). x.place) (c.requires.told ∙ ap (λ s. standing_among s.objects s.rows c.args.id) (sym c.space.view_is))) ∙ w.in-None.is)
          c.settle_shadow-2.new.space (c.settle_shadow-2.ensures ∙ (λ i. with_shadow_settled g.T.TypeSet.procedures (is_listed c.args.touched.now) c.settle_shadow.new.space (w.other-is i))
          ∙ c.settle_shadow.ensures ∙ ap (λ s. with_shadow_settled g.T.TypeSet.procedures (is_listed c.args.touched.now) s c.settle_unheld-own.result) w.space-is)
    ]
