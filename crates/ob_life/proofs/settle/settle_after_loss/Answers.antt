-- Only the object may go, and then the directory of its name.
use Rattle.std.proofs.Common.{◌∙◌, ap, sym}
use Rattle.ob_model.specs.Settle.{has_handle}
use Rattle.ob_objects.specs.Standing.{standing_among}
use Rattle.ob_life.proofs.Walked.{may_orderly, closed_settled, settled_is_orderly}
use Rattle.ob_life.proofs.Upheld.{held_upheld, named_upheld, nothing_goes}
use Rattle.ob_life.proofs.settle.settle_after_loss.Goals as goal

pub returns-then-has_handle-clause-settled : goal.returns-then-has_handle-clause-settled
returns-then-has_handle-clause-settled g c =
    nothing_goes c.args.space.now c.args.object (held_upheld c.args.space.now c.args.object (ap (λ s. has_handle s c.args.object) (sym c.space.view_is) ∙ sym c.has_handle.ensures ∙ c.if-has_handle.true))
    g.T.TypeSet.procedures c.requires.kept

pub returns-then-stays_by_name-clause-settled : goal.returns-then-stays_by_name-clause-settled
returns-then-stays_by_name-clause-settled g c =
    nothing_goes c.args.space.now c.args.object
    (named_upheld c.args.space.now c.args.object c.standing_of-standing.result (c.standing_of-standing.ensures.standing ∙ ap (λ s. standing_among s.objects s.rows c.args.object) c.space.view_is) (sym c.stays_by_name.ensures ∙ c.if-stays_by_name.true))
    g.T.TypeSet.procedures c.requires.kept

pub settle_closed-requires-clause-may : goal.settle_closed-requires-clause-may
settle_closed-requires-clause-may g c κs within = may_orderly g.T.TypeSet.idle c.args.space.now c.requires.orderly

pub returns-clause-orderly : goal.returns-clause-orderly
returns-clause-orderly g c =
    settled_is_orderly g.T.TypeSet.procedures g.T.TypeSet.idle c.args.space.now c.requires.orderly c.settle_closed.new.space
    (closed_settled g.T.TypeSet.procedures g.T.TypeSet.idle c.args.space.now c.requires.orderly c.requires.shadows c.args.object c.requires.kept c.settle_closed.new.space c.settle_closed.ensures)

pub returns-clause-settled : goal.returns-clause-settled
returns-clause-settled g c =
    closed_settled g.T.TypeSet.procedures g.T.TypeSet.idle c.args.space.now c.requires.orderly c.requires.shadows c.args.object c.requires.kept c.settle_closed.new.space c.settle_closed.ensures
