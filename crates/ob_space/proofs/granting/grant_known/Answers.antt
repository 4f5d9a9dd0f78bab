-- The handle comes last of all, and the object is as its open left it; or the handle is taken back.
use Rattle.std.proofs.Common.{refl, ap, sym, subst, ◌∙◌}
use Rattle.std.specs.Prelude.{Option, None}
use Rattle.std.specs.Option.{option_map, option_or}
use Rattle.ob_base.specs.declared.status.Status.{Status}
use Rattle.ob_base.specs.declared.status.Status.TheVariants.{TypeRefused}
use Rattle.ob_model.specs.Grants.{open_refusal}
use Rattle.ob_space.proofs.Granted.{refused_before, not_refused, refused_by_set, refused_is_orderly, granted, granted_is_orderly}
use Rattle.ob_space.proofs.granting.grant_known.Goals as goal
use Rattle.ob_space.specs.Namespace.{parts, state_of}
use Rattle.ob_space.specs.Orderly.{IsOrderly}

pub returns-in-Some-clause-granted : goal.returns-in-Some-clause-granted
returns-in-Some-clause-granted g c = (
  ap (λ (r : Option Status). option_or r (option_map TypeRefused (open_refusal g.T.TypeSet.procedures c.args.space.now c.args.object c.args.reason)))
      (refused_before c.args.space.now c.args.process c.args.object c.args.options c.in-Some.status (sym c.early_refusal.ensures ∙ c.in-Some.is)),
  refl,
)

pub returns-in-Err-clause-orderly : goal.returns-in-Err-clause-orderly
returns-in-Err-clause-orderly g c =
    refused_is_orderly g.row.T-Kind.Denot g.T.TypeSet.procedures g.T.TypeSet.idle (parts c.space.inside) (subst (IsOrderly g.T.TypeSet.idle) (sym c.space.view_is) c.requires.orderly) c.args.process c.args.object c.args.options c.args.reason
    None (not_refused (state_of g.row.T-Kind.Denot (parts c.space.inside)) c.args.process c.args.object c.args.options c.early_refusal.result c.grant.result c.in-Ok.value
    (rw (← c.space.view_is) at c.early_refusal.ensures) c.in_default.is c.in-Ok.is c.grant.ensures.full) refl
    c.in-Ok.value c.grant.new.self c.in-Ok.ensures.value c.in-Ok.ensures.unused c.in-Ok.ensures.last c.in-Ok.ensures.processes
    c.in-Err.code c.open.new.set c.open.new.self c.take.new.self c.in-Err.ensures.refused c.in-Err.ensures.set_unchanged c.in-Err.ensures.unchanged c.take.ensures.others c.take.ensures.processes

pub returns-in-Err-clause-granted : goal.returns-in-Err-clause-granted
returns-in-Err-clause-granted g c =
    rw (← c.space.view_is) (
    refused_by_set g.row.T-Kind.Denot g.T.TypeSet.procedures g.T.TypeSet.idle (parts c.space.inside) (subst (IsOrderly g.T.TypeSet.idle) (sym c.space.view_is) c.requires.orderly) c.args.process c.args.object c.args.options c.args.reason
    None (not_refused (state_of g.row.T-Kind.Denot (parts c.space.inside)) c.args.process c.args.object c.args.options c.early_refusal.result c.grant.result c.in-Ok.value
    (rw (← c.space.view_is) at c.early_refusal.ensures) c.in_default.is c.in-Ok.is c.grant.ensures.full) refl
    c.in-Ok.value c.grant.new.self c.in-Ok.ensures.value c.in-Ok.ensures.unused c.in-Ok.ensures.last c.in-Ok.ensures.processes
    c.in-Err.code c.open.new.set c.open.new.self c.take.new.self c.in-Err.ensures.refused c.in-Err.ensures.set_unchanged c.in-Err.ensures.unchanged c.take.ensures.others c.take.ensures.processes)

pub returns-clause-orderly : goal.returns-clause-orderly
returns-clause-orderly g c =
    granted_is_orderly g.row.T-Kind.Denot g.T.TypeSet.procedures g.T.TypeSet.idle (parts c.space.inside) (subst (IsOrderly g.T.TypeSet.idle) (sym c.space.view_is) c.requires.orderly) c.args.process c.args.object c.args.options c.args.reason
    None (not_refused (state_of g.row.T-Kind.Denot (parts c.space.inside)) c.args.process c.args.object c.args.options c.early_refusal.result c.grant.result c.in-Ok.value
    (rw (← c.space.view_is) at c.early_refusal.ensures) c.in_default.is c.in-Ok.is c.grant.ensures.full) refl
    c.in-Ok.value c.grant.new.self c.in-Ok.ensures.value c.in-Ok.ensures.unused c.in-Ok.ensures.last c.in-Ok.ensures.processes
    c.in_default-open.ensures.accepted c.open.new.set c.open.new.self c.in_default-open.ensures.set c.in_default-open.ensures.opened

pub returns-clause-granted : goal.returns-clause-granted
returns-clause-granted g c =
    rw (← c.space.view_is) (
    granted g.row.T-Kind.Denot g.T.TypeSet.procedures g.T.TypeSet.idle (parts c.space.inside) (subst (IsOrderly g.T.TypeSet.idle) (sym c.space.view_is) c.requires.orderly) c.args.process c.args.object c.args.options c.args.reason
    None (not_refused (state_of g.row.T-Kind.Denot (parts c.space.inside)) c.args.process c.args.object c.args.options c.early_refusal.result c.grant.result c.in-Ok.value
    (rw (← c.space.view_is) at c.early_refusal.ensures) c.in_default.is c.in-Ok.is c.grant.ensures.full) refl
    c.in-Ok.value c.grant.new.self c.in-Ok.ensures.value c.in-Ok.ensures.unused c.in-Ok.ensures.last c.in-Ok.ensures.processes
    c.in_default-open.ensures.accepted c.open.new.set c.open.new.self c.in_default-open.ensures.set c.in_default-open.ensures.opened)
