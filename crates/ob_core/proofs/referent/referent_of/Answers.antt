-- The object's body is that of what is stored.
use Rattle.std.proofs.Common.{ap, sym, refl, ◌∙◌}
use Rattle.std.specs.Prelude.{None, Some}
use Rattle.std.specs.Option.{option_map}
use Rattle.ob_space.proofs.Shown.{shown}
use Rattle.ob_space.proofs.Stored.{body_is}
use Rattle.ob_core.specs.Referent.{body_lent}
use Rattle.ob_core.proofs.referent.referent_of.Goals as goal

pub returns-in_err-stored : goal.returns-in_err-stored
returns-in_err-stored g c =
    ap (option_map body_lent) c.from_residual.ensures
    ∙ sym (body_is c.args.space.now c.space.inside.store (shown c.space.inside.store (sym c.space.view_is) refl refl) c.args.object None c.in_err-stored.ensures.stored)

pub returns : goal.returns
returns g c =
    ap Some c.lent.ensures
    ∙ sym (body_is c.args.space.now c.space.inside.store (shown c.space.inside.store (sym c.space.view_is) refl refl) c.args.object (Some c.in_ok-stored.stored.now) c.in_ok-stored.ensures.stored)
