-- The object's body and whether it is exclusive are those of what is stored.
use Rattle.std.proofs.Common.{ap, sym, refl, ◌∙◌}
use Rattle.std.specs.Prelude.{None, Some}
use Rattle.std.specs.Option.{option_copied}
use Rattle.ob_space.proofs.Stored.{wanted_is, exclusive_is}
use Rattle.ob_space.proofs.wanted.judge_object.Goals as goal
use Rattle.ob_space.proofs.Shown.{shown}

pub returns-in-Some-clause-wanted : goal.returns-in-Some-clause-wanted
returns-in-Some-clause-wanted g c =
    c.is_wanted.ensures
    ∙ sym (wanted_is c.args.space.now c.space.inside.store (shown c.space.inside.store (sym c.space.view_is) refl refl) c.args.id (Some c.in-Some.stored.now)
    (sym (ap option_copied c.in-Some.is) ∙ c.get.ensures.stored) g.T.TypeSet.procedures c.args.wanted)

pub returns-in-Some-clause-exclusive : goal.returns-in-Some-clause-exclusive
returns-in-Some-clause-exclusive g c =
    sym (exclusive_is c.args.space.now c.space.inside.store (shown c.space.inside.store (sym c.space.view_is) refl refl) c.args.id (Some c.in-Some.stored.now)
    (sym (ap option_copied c.in-Some.is) ∙ c.get.ensures.stored))

pub returns-in-None-clause-wanted : goal.returns-in-None-clause-wanted
returns-in-None-clause-wanted g c =
    sym (wanted_is c.args.space.now c.space.inside.store (shown c.space.inside.store (sym c.space.view_is) refl refl) c.args.id None
    (sym (ap option_copied c.in-None.is) ∙ c.get.ensures.stored) g.T.TypeSet.procedures c.args.wanted)

pub returns-in-None-clause-exclusive : goal.returns-in-None-clause-exclusive
returns-in-None-clause-exclusive g c =
    sym (exclusive_is c.args.space.now c.space.inside.store (shown c.space.inside.store (sym c.space.view_is) refl refl) c.args.id None
    (sym (ap option_copied c.in-None.is) ∙ c.get.ensures.stored))
