-- The next open comes after those that were copied.
use Rattle.std.proofs.Common.{◌∙◌, ap}
use Rattle.std.specs.BTreeMap.{insert_entry}
use Rattle.std.specs.Ordering.{nat_cmp}
use Rattle.ob_processes.proofs.Copies.{next_comes}
use Rattle.ob_processes.proofs.pending.copied_opens.Goals as goal

pub loop-ticket-preserved : goal.loop-ticket-preserved
loop-ticket-preserved g c =
    next_comes c.args.opens.now.entries c.loop-ticket.copy.entries c.loop-ticket.ticket-iterator c.next.new.self c.insert.new.self.entries c.in-Some.ticket.now c.in-Some.pending.now
    c.iter-ticket-items.ensures.ordered c.loop-ticket.invariant c.in-Some.ensures.steps
    (c.in_ok-insert.ensures.entries ∙ ap (insert_entry nat_cmp c.loop-ticket.copy.entries c.in-Some.ticket.now) c.in_ok-copied_open.ensures)

pub loop-ticket-preserved-in_ok-insert : goal.loop-ticket-preserved-in_ok-insert
loop-ticket-preserved-in_ok-insert g c =
    next_comes c.args.opens.now.entries c.loop-ticket.copy.entries c.loop-ticket.ticket-iterator c.next.new.self c.insert.new.self.entries c.in-Some.ticket.now c.in-Some.pending.now
    c.iter-ticket-items.ensures.ordered c.loop-ticket.invariant c.in-Some.ensures.steps
    (c.in_ok-insert.ensures.entries ∙ ap (insert_entry nat_cmp c.loop-ticket.copy.entries c.in-Some.ticket.now) c.in_ok-copied_open.ensures)
