-- The parts are those of the opening state, which is one that a core may have.
use Rattle.std.proofs.Common.{◌∙◌, ◌++◌, ◌∷◌, [], None, ap, sym, subst}
use Rattle.ob_model.specs.Opening.{opening}
use Rattle.ob_objects.specs.Store.{objects_of, rows_of}
use Rattle.ob_space.specs.Orderly.{IsBetweenSteps}
use Rattle.ob_core.specs.Reached.{IsReached}
use Rattle.ob_core.proofs.Opened.{opening_core}
use Rattle.ob_core.proofs.Reached.{opening_reached}
use Rattle.ob_core.proofs.namespace.Core.with_cache.Goals as goal

pub invariant_of-result : goal.invariant_of-result
invariant_of-result g c =
    let handles = c.start.ensures.handles ∙ ap (λ r. r.handles) c.new-processes.ensures in
    let store = c.in_ok-store.ensures.store in
    let processes = c.in_ok-start.ensures.last ∙ ap (λ r. r.processes ++ record { number = 1; map = None } ∷ []) c.new-processes.ensures in
    subst (λ s. IsBetweenSteps g.T.TypeSet.idle s × IsReached g.T.TypeSet.procedures s)
    (sym (λ i. record (opening c.args.types) {
      objects = objects_of (store i);
      rows = rows_of (store i);
      handles = handles i;
      processes = processes i;
      pending = c.new-pending.ensures i;
    }))
    (opening_core g.T.TypeSet.idle c.args.types, opening_reached g.T.TypeSet.procedures c.args.types)
