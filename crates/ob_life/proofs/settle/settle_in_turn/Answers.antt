-- What is upheld stays; the others are settled.
use Rattle.std.proofs.Common.{◌∙◌, ap, refl, sym, inl, inr}
use Rattle.ob_model.specs.Settle.{has_handle}
use Rattle.ob_objects.specs.Standing.{standing_among}
use Rattle.ob_life.proofs.Upheld.{held_upheld, named_upheld}
use Rattle.ob_life.proofs.settle.settle_in_turn.Goals as goal

pub returns-then-has_handle : goal.returns-then-has_handle
returns-then-has_handle g c =
    inl (held_upheld c.args.space.now c.args.id (ap (λ s. has_handle s c.args.id) (sym c.space.view_is) ∙ sym c.has_handle.ensures ∙ c.if-has_handle.true), refl)

pub returns-then-not-stays_by_name : goal.returns-then-not-stays_by_name
returns-then-not-stays_by_name g c = inr c.settle_named.ensures

pub returns-else-not-stays_by_name : goal.returns-else-not-stays_by_name
returns-else-not-stays_by_name g c =
    inl (
      named_upheld c.args.space.now c.args.id c.standing_of-standing.result (c.standing_of-standing.ensures.standing ∙ ap (λ s. standing_among s.objects s.rows c.args.id) c.space.view_is)
          (sym c.stays_by_name.ensures ∙ c.if-not-stays_by_name.false),
      refl,
    )
