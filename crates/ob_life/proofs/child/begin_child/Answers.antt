-- What begins is orderly.
use Rattle.std.proofs.Common.{◌∙◌, ap, sym, subst}
use Rattle.ob_model.specs.Processes.{with_child, inherits}
use Rattle.ob_space.specs.Orderly.{IsOrderly}
use Rattle.ob_life.proofs.Beginnings.{begun_orderly, fewer_processes}
use Rattle.ob_life.proofs.child.begin_child.Goals as goal

pub returns-clause-orderly : goal.returns-clause-orderly
returns-clause-orderly g c =
    let s = c.args.space.now in
    subst (IsOrderly g.T.TypeSet.idle)
    (sym (c.in_ok-begin_with.ensures.begun ∙ ap (inherits g.T.TypeSet.procedures (with_child s c.args.parent) s.next_process) (c.deref.ensures.value ∙ c.in_ok-inherited.ensures.list)))
    (begun_orderly g.T.TypeSet.procedures g.T.TypeSet.idle s c.args.parent c.args.inherit c.requires.sound c.requires.orderly
    (fewer_processes s (sym c.is_full.ensures ∙ c.if-is_full.false)))
