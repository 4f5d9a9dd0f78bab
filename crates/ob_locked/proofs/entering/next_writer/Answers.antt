-- A journal has so few entries that their numbers can be counted.
use Rattle.std.proofs.Common.{arith}
use Rattle.ob_locked.proofs.Keeps.{whole_few}
use Rattle.ob_locked.proofs.entering.next_writer.Goals as goal

pub overflow_add-result : goal.overflow_add-result
overflow_add-result g c =
    omega (arith, c.len.ensures, whole_few c.args.journal.now.journal c.is_sealed_in_order.ensures.order c.is_sealed_in_order.ensures.few c.requires)
