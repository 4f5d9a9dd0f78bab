-- Nothing but the set's value has changed, and no procedure notices that.
use Rattle.std.proofs.Common.{ap, sym, subst}
use Rattle.ob_space.specs.Namespace.{parts}
use Rattle.ob_core.proofs.Taken.{IsCore, core_taken}
use Rattle.ob_core.proofs.namespace.Core.take_next.Goals as goal

pub invariant_of-self : goal.invariant_of-self
invariant_of-self g c =
    let viewed = ap (λ x. x.space) c.self-inside.view_is in
    let core = subst (IsCore g.T.TypeSet.procedures g.T.TypeSet.idle) (sym viewed) c.self.invariant in
    core_taken g.T.TypeSet.procedures g.T.TypeSet.idle g.T.Drains.behind c.what_is_taken_is_unnoticed.ensures (parts c.self-inside.inside.0.0) c.take_next.new.self c.take_next.result
    core c.take_next.ensures.taken c.take_next.ensures.none
