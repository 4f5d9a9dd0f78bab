-- The object is judged by the names that are left.
use Rattle.std.proofs.Common.{◌∙◌, true, false, ap, sym, subst}
use Rattle.ob_model.specs.Settle.{has_handle}
use Rattle.ob_objects.specs.Standing.{standing_among}
use Rattle.ob_space.specs.Namespace.{parts}
use Rattle.ob_life.specs.Settling.{MaySettle}
use Rattle.ob_life.proofs.Walked.{held_told, settled_gone, settled_there, shadow_gone, shadow_there, idle_there}
use Rattle.ob_life.proofs.settle.settle_unheld.Goals as goal

pub delete_object-requires-after_bounds : goal.delete_object-requires-after_bounds
delete_object-requires-after_bounds g c κs within =
    let may = subst (MaySettle g.T.TypeSet.idle) (sym c.space.view_is) c.requires.may in
    idle_there g.row.T-Kind.Denot g.T.TypeSet.procedures (parts c.space.inside) c.args.id c.len.ensures.store
    (ap (λ s. has_handle s c.args.id) c.space.view_is ∙ c.requires.unheld) c.args.standing.now
    (c.requires.told ∙ ap (λ s. standing_among s.objects s.rows c.args.id) (sym c.space.view_is)) c.forget_unkept.new.store c.forget_unkept.ensures
    g.T.TypeSet.idle may.unheld

pub returns-then-is_held_up-clause-settled : goal.returns-then-is_held_up-clause-settled
returns-then-is_held_up-clause-settled g c =
    rw (← c.space.view_is) (
    settled_there g.row.T-Kind.Denot g.T.TypeSet.procedures (parts c.space.inside) c.args.id c.len.ensures.store
    (ap (λ s. has_handle s c.args.id) c.space.view_is ∙ c.requires.unheld) c.args.standing.now
    (c.requires.told ∙ ap (λ s. standing_among s.objects s.rows c.args.id) (sym c.space.view_is)) c.forget_unkept.new.store c.forget_unkept.ensures
    (held_told g.row.T-Kind.Denot g.T.TypeSet.procedures (parts c.space.inside) c.args.id c.len.ensures.store
    (ap (λ s. has_handle s c.args.id) c.space.view_is ∙ c.requires.unheld) c.args.standing.now
    (c.requires.told ∙ ap (λ s. standing_among s.objects s.rows c.args.id) (sym c.space.view_is)) c.forget_unkept.new.store c.forget_unkept.ensures
    (subst (MaySettle g.T.TypeSet.idle) (sym c.space.view_is) c.requires.may).descending c.is_held_up.result true c.is_held_up.ensures c.if-is_held_up.true))

pub returns-then-is_held_up-clause-shadow : goal.returns-then-is_held_up-clause-shadow
returns-then-is_held_up-clause-shadow g c =
    rw (← c.space.view_is) (
    shadow_there g.row.T-Kind.Denot g.T.TypeSet.procedures (parts c.space.inside) c.args.id c.len.ensures.store
    (ap (λ s. has_handle s c.args.id) c.space.view_is ∙ c.requires.unheld) c.args.standing.now
    (c.requires.told ∙ ap (λ s. standing_among s.objects s.rows c.args.id) (sym c.space.view_is)) c.forget_unkept.new.store c.forget_unkept.ensures
    (held_told g.row.T-Kind.Denot g.T.TypeSet.procedures (parts c.space.inside) c.args.id c.len.ensures.store
    (ap (λ s. has_handle s c.args.id) c.space.view_is ∙ c.requires.unheld) c.args.standing.now
    (c.requires.told ∙ ap (λ s. standing_among s.objects s.rows c.args.id) (sym c.space.view_is)) c.forget_unkept.new.store c.forget_unkept.ensures
    (subst (MaySettle g.T.TypeSet.idle) (sym c.space.view_is) c.requires.may).descending c.is_held_up.result true c.is_held_up.ensures c.if-is_held_up.true))

pub returns-clause-settled : goal.returns-clause-settled
returns-clause-settled g c =
    rw (← c.space.view_is) (
    settled_gone g.row.T-Kind.Denot g.T.TypeSet.procedures (parts c.space.inside) c.args.id c.len.ensures.store
    (ap (λ s. has_handle s c.args.id) c.space.view_is ∙ c.requires.unheld) c.args.standing.now
    (c.requires.told ∙ ap (λ s. standing_among s.objects s.rows c.args.id) (sym c.space.view_is)) c.forget_unkept.new.store c.forget_unkept.ensures
    _ c.delete_object.ensures.gone
    (held_told g.row.T-Kind.Denot g.T.TypeSet.procedures (parts c.space.inside) c.args.id c.len.ensures.store
    (ap (λ s. has_handle s c.args.id) c.space.view_is ∙ c.requires.unheld) c.args.standing.now
    (c.requires.told ∙ ap (λ s. standing_among s.objects s.rows c.args.id) (sym c.space.view_is)) c.forget_unkept.new.store c.forget_unkept.ensures
    (subst (MaySettle g.T.TypeSet.idle) (sym c.space.view_is) c.requires.may).descending c.is_held_up.result false c.is_held_up.ensures c.if-is_held_up.false))

pub returns-clause-shadow : goal.returns-clause-shadow
returns-clause-shadow g c =
    rw (← c.space.view_is) (
    shadow_gone g.row.T-Kind.Denot g.T.TypeSet.procedures (parts c.space.inside) c.args.id c.len.ensures.store
    (ap (λ s. has_handle s c.args.id) c.space.view_is ∙ c.requires.unheld) c.args.standing.now
    (c.requires.told ∙ ap (λ s. standing_among s.objects s.rows c.args.id) (sym c.space.view_is)) c.forget_unkept.new.store c.forget_unkept.ensures
    _ c.delete_object.ensures.shadow
    (held_told g.row.T-Kind.Denot g.T.TypeSet.procedures (parts c.space.inside) c.args.id c.len.ensures.store
    (ap (λ s. has_handle s c.args.id) c.space.view_is ∙ c.requires.unheld) c.args.standing.now
    (c.requires.told ∙ ap (λ s. standing_among s.objects s.rows c.args.id) (sym c.space.view_is)) c.forget_unkept.new.store c.forget_unkept.ensures
    (subst (MaySettle g.T.TypeSet.idle) (sym c.space.view_is) c.requires.may).descending c.is_held_up.result false c.is_held_up.ensures c.if-is_held_up.false))
