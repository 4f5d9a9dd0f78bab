-- The object's body is that of what is stored.
use Rattle.std.proofs.Common.{ap, sym, refl, ◌∙◌}
use Rattle.std.specs.Prelude.{None, Some}
use Rattle.std.specs.Option.{option_copied}
use Rattle.ob_space.proofs.Stored.{wanted_is}
use Rattle.ob_space.proofs.wanted.is_wanted_at.Goals as goal
use Rattle.ob_space.proofs.Shown.{shown}

pub returns-in-Some : goal.returns-in-Some
returns-in-Some g c =
    c.is_wanted.ensures
    ∙ sym (wanted_is c.args.space.now c.space.inside.store (shown c.space.inside.store (sym c.space.view_is) refl refl) c.args.id (Some c.in-Some.stored.now)
    (sym (ap option_copied c.in-Some.is) ∙ c.get.ensures.stored) g.T.TypeSet.procedures c.args.wanted)

pub returns-in-None : goal.returns-in-None
returns-in-None g c =
    sym (wanted_is c.args.space.now c.space.inside.store (shown c.space.inside.store (sym c.space.view_is) refl refl) c.args.id None
    (sym (ap option_copied c.in-None.is) ∙ c.get.ensures.stored) g.T.TypeSet.procedures c.args.wanted)
