-- What the seal under the lock says, is so of a run.
use Rattle.std.specs.Arc.{arc_value}
use Rattle.ob_shared.proofs.Chained.{seal_refused, seal_told}
use Rattle.ob_shared.proofs.Onward.{later_sealed}
use Rattle.ob_shared.proofs.under.seal_under.Goals as goal

pub returns-clause-sealed : goal.returns-clause-sealed
returns-clause-sealed g c =
    seal_told g.T.TypeSet.procedures c.args.locked.now c.is_kept.ensures.run arc_value c.seal_step.result c.is_kept.ensures.sealed c.seal_step.ensures.admitted c.seal_step.ensures.segment

pub returns-clause-fault : goal.returns-clause-fault
returns-clause-fault g c = seal_refused g.T.TypeSet.procedures c.args.locked.now c.is_kept.ensures.run c.seal_step.result c.seal_step.ensures.fault

pub returns-clause-later : goal.returns-clause-later
returns-clause-later g c = later_sealed g.T.TypeSet.procedures c.args.locked.now c.is_kept.ensures.run c.seal_step.result c.seal_step.new.locked c.seal_step.ensures.sealed c.seal_step.ensures.unsealed
