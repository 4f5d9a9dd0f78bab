-- Where none is to be inherited none is, and else those that are marked.
use Rattle.std.proofs.Common.{◌≡◌, ◌∙◌, sym, subst}
use Rattle.std.specs.Result.{IfOk}
use Rattle.ob_life.proofs.Beginnings.{none_inherited, all_inherited}
use Rattle.ob_life.proofs.child.inherited_from.Goals as goal
use Rattle.ob_space.specs.Namespace.{parts, state_of}

pub returns-then-not-inherit-clause-list : goal.returns-then-not-inherit-clause-list
returns-then-not-inherit-clause-list g c =
    c.new.ensures.items ∙ sym (none_inherited c.args.space.now c.args.parent c.args.inherit c.if-not-inherit.true)

pub returns-clause-list : goal.returns-clause-list
returns-clause-list g c =
    rw (← c.space.view_is) (
    subst (λ hs. IfOk c.inheritable.result (λ list. list.items ≡ hs))
    (all_inherited (state_of g.row.T-Kind.Denot (parts c.space.inside)) c.args.parent c.args.inherit c.if-not-inherit.false) c.inheritable.ensures.list)
