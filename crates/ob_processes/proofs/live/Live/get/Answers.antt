-- Each handle of a table has a handle value.
use Rattle.std.proofs.Common.{◌==◌, sym, subst}
use Rattle.std.specs.Prelude.{IfSome}
use Rattle.ob_model.specs.Grants.{IsHandleValue}
use Rattle.ob_model.proofs.SoundPaths.{find_of}
use Rattle.ob_processes.proofs.live.Live.get.Goals as goal

pub returns-clause-value : goal.returns-clause-value
returns-clause-value g c =
    subst (λ o. IfSome o (λ h. IsHandleValue h.value)) (sym c.get.ensures)
    (find_of (λ h. IsHandleValue h.value) (λ h. h.value == c.args.value) _ c.self.invariant.table.values)
