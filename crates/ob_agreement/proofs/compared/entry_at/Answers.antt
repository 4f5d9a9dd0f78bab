-- A journal has so few entries that their numbers can be counted; the place is one of them.
use Rattle.std.proofs.Common.{◌≡◌, ◌∙◌, ℕ, ◌+◌, ◌-◌, Some, ap, arith}
use Rattle.ob_segments.specs.Journal.{whole}
use Rattle.ob_locked.proofs.Keeps.{whole_few}
use Rattle.ob_agreement.proofs.compared.entry_at.Goals as goal

pub overflow_add-place : goal.overflow_add-place
overflow_add-place g c =
    omega (arith, c.requires.within, whole_few c.args.journal.now.journal c.is_sealed_in_order.ensures.order c.is_sealed_in_order.ensures.few c.requires.few)
