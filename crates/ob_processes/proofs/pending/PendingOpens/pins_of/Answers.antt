-- The count of an object is that of the opens that pin it.
use Rattle.std.proofs.Common.{◌∙◌, ap}
use Rattle.ob_processes.specs.Pending.{pins_of}
use Rattle.ob_processes.proofs.pending.PendingOpens.pins_of.Goals as goal

pub returns : goal.returns
returns g c = c.get.ensures ∙ c.self.invariant.counts c.args.pinned ∙ ap (λ opens. pins_of opens c.args.pinned) c.self.view_is
