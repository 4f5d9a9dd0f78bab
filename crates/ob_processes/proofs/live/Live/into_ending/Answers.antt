-- An object that a handle leads to is counted, and so it is listed.
use Rattle.std.proofs.Common.{◌≡◌, true, sym, subst, All}
use Rattle.ob_handles.specs.Counts.{Numbers, is_listed}
use Rattle.ob_processes.proofs.Leaving.{all_listed}
use Rattle.ob_processes.proofs.live.Live.into_ending.Goals as goal

pub returns-clause-touched : goal.returns-clause-touched
returns-clause-touched g c =
    subst (λ (n : Numbers). All (λ h. is_listed n h.object ≡ true) (g.H.HandleTable.handles c.self.inside.table)) (sym c.into_touched-touched.ensures)
    (all_listed (g.H.HandleTable.handles c.self.inside.table) c.self.inside.counts c.self.invariant.counts)
