-- The object is taken away and deleted, with its shadow given, or none is there.
use Rattle.std.proofs.Common.{◌∙◌, sym, refl, Some, None, subst}
use Rattle.std.specs.Prelude.{MatchOption}
use Rattle.ob_objects.proofs.Follow.{shadow_of_object}
use Rattle.ob_space.proofs.Shown.{shown}
use Rattle.ob_space.proofs.Stored.{body_is}
use Rattle.ob_life.proofs.Walked.{is_deleted}
use Rattle.ob_life.proofs.settle.delete_object.Goals as goal
use Rattle.ob_space.specs.Namespace.{parts}
use Rattle.ob_space.specs.Orderly.{IsIdleBody}

pub delete_body-requires-after_bounds : goal.delete_body-requires-after_bounds
delete_body-requires-after_bounds g c κs within =
    subst (λ o. MatchOption o (Unit {0}) (IsIdleBody g.T.TypeSet.idle))
    (body_is c.args.space.now c.space.inside.store (shown c.space.inside.store (sym c.space.view_is) refl refl) c.args.id (Some c.in-Some.stored)
    (sym c.in-Some.is ∙ c.remove.ensures.there)) c.requires

pub returns-in_default-clause-gone : goal.returns-in_default-clause-gone
returns-in_default-clause-gone g c =
    rw (← c.space.view_is) (
    is_deleted g.row.T-Kind.Denot g.T.TypeSet.procedures (parts c.space.inside) c.args.id None c.remove.new.self c.space.inside.set
    (sym c.in_default.is ∙ c.remove.ensures.there) c.remove.ensures.others refl)

pub returns-in_default-clause-shadow : goal.returns-in_default-clause-shadow
returns-in_default-clause-shadow g c =
    rw (← c.space.view_is) (shadow_of_object c.space.inside.store c.args.id None (sym c.in_default.is ∙ c.remove.ensures.there))

pub returns-clause-gone : goal.returns-clause-gone
returns-clause-gone g c =
    rw (← c.space.view_is) (
    is_deleted g.row.T-Kind.Denot g.T.TypeSet.procedures (parts c.space.inside) c.args.id (Some c.in-Some.stored) c.remove.new.self c.delete_body.new.set
    (sym c.in-Some.is ∙ c.remove.ensures.there) c.remove.ensures.others c.delete_body.ensures)

pub returns-clause-shadow : goal.returns-clause-shadow
returns-clause-shadow g c =
    rw (← c.space.view_is) (c.shadow-shadow.ensures ∙ shadow_of_object c.space.inside.store c.args.id (Some c.in-Some.stored) (sym c.in-Some.is ∙ c.remove.ensures.there))
