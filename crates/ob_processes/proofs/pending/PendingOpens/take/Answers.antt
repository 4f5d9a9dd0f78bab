-- The open that goes no longer pins its object.
use Rattle.std.proofs.Common.{◌∙◌, sym}
use Rattle.ob_processes.proofs.Pinned.{found_now, others_now, fewer_kept}
use Rattle.ob_processes.proofs.pending.PendingOpens.take.Goals as goal

pub returns-in_err-pending-clause-there : goal.returns-in_err-pending-clause-there
returns-in_err-pending-clause-there g c =
    c.from_residual.ensures ∙ c.in_err-pending.ensures.value
    ∙ found_now c.self.inside.opens.entries c.self.inside.pins c.self.invariant c.args.self.now c.self.view_is c.args.ticket

pub returns-in_err-pending-clause-others : goal.returns-in_err-pending-clause-others
returns-in_err-pending-clause-others g c =
    others_now c.self.inside.opens.entries c.self.inside.pins c.self.invariant c.args.self.now c.self.view_is c.args.ticket c.remove.new.self.entries c.in_err-pending.ensures.entries

pub invariant_of-self-2 : goal.invariant_of-self-2
invariant_of-self-2 g c =
    fewer_kept c.self.inside.opens.entries c.self.inside.pins c.self.invariant c.args.self.now c.self.view_is c.args.ticket c.remove.new.self.entries c.in_ok-pending.ensures.entries
    c.in_ok-pending.pending c.lower.new.self (sym c.in_ok-pending.ensures.value) c.in_ok-pending.ensures.ordered c.lower.ensures.counted

pub returns-clause-there : goal.returns-clause-there
returns-clause-there g c =
    c.in_ok-pending.ensures.value ∙ found_now c.self.inside.opens.entries c.self.inside.pins c.self.invariant c.args.self.now c.self.view_is c.args.ticket

pub returns-clause-others : goal.returns-clause-others
returns-clause-others g c =
    others_now c.self.inside.opens.entries c.self.inside.pins c.self.invariant c.args.self.now c.self.view_is c.args.ticket c.remove.new.self.entries c.in_ok-pending.ensures.entries
