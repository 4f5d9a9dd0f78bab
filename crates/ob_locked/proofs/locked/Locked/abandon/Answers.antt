-- Behind an abandon the journal is a run that ends with its entry, and the open that waited has given its places back.
use Rattle.std.proofs.Common.{◌∙◌, ◌-◌, ℕ, refl, ap, arith}
use Rattle.ob_base.specs.declared.status.Status.TheVariants.{Success}
use Rattle.ob_model.specs.declared.reply.Event.TheVariants.{Abandon}
use Rattle.ob_model.specs.Refusals.{answers}
use Rattle.ob_types.specs.Pending.{brought, run_of}
use Rattle.ob_segments.specs.Journal.{whole, with_entry}
use Rattle.ob_locked.specs.Places.{places_of}
use Rattle.ob_locked.proofs.Placed.{found_places}
use Rattle.ob_locked.proofs.Keeps.{all_few, kept_behind_end, place_behind_end}
use Rattle.ob_locked.proofs.locked.Locked.abandon.Goals as goal

pub overflow_sub-left : goal.overflow_sub-left
overflow_sub-left g c = omega (arith, found_places c.ticket.result c.self.inside.core.pending, c.places_at.ensures.value, c.self.invariant.reserved)

pub enter-requires-clause-room : goal.enter-requires-clause-room
enter-requires-clause-room g c =
    let made = c.in-Some.ensures in
    let b = c.into_parts-brought.result.0 in
    let entry = c.in-Some.twice.entry in
    let one =
    place_behind_end g.T.TypeSet.procedures (record { first = c.self.inside.first.value; journal = c.self.inside.journal.journal; state = c.self.inside.core })
    c.self.inside.reserved c.self.inside.journal.places c.self.inside.book.total c.self.invariant
    c.abandon_core.new.core (Abandon (brought b).ticket (run_of b)) (answers Success) c.next_writer-writer.result.number c.next_writer-writer.result.seat entry
    (with_entry c.self.inside.journal.journal entry) made.step made.entry c.next_writer-writer.ensures.number refl (brought b).ticket made.pending in
    omega (arith, one)

pub invariant_of-self-2 : goal.invariant_of-self-2
invariant_of-self-2 g c =
    let made = c.in-Some.ensures in
    let b = c.into_parts-brought.result.0 in
    let entry = c.in-Some.twice.entry in
    kept_behind_end g.T.TypeSet.procedures (record { first = c.self.inside.first.value; journal = c.self.inside.journal.journal; state = c.self.inside.core })
    c.self.inside.reserved c.self.inside.journal.places c.self.inside.book.total c.self.invariant
    c.abandon_core.new.core (Abandon (brought b).ticket (run_of b)) (answers Success) c.next_writer-writer.result.number c.next_writer-writer.result.seat entry
    c.enter.new.journal.journal made.step made.entry c.next_writer-writer.ensures.number c.enter.ensures.journal (brought b).ticket made.pending
    (c.self.inside.reserved - c.places_at.result) c.enter.new.journal.places c.enter.new.book.total _ refl
    (ap (λ (n : ℕ). c.self.inside.reserved - n) (c.places_at.ensures.value ∙ ap (places_of c.self.inside.core) c.ticket.ensures)) c.enter.ensures.places c.enter.ensures.counted

pub enter-requires-clause-few : goal.enter-requires-clause-few
enter-requires-clause-few g c =
    all_few g.T.TypeSet.procedures (record { first = c.self.inside.first.value; journal = c.self.inside.journal.journal; state = c.self.inside.core })
    c.self.inside.reserved c.self.inside.journal.places c.self.inside.book.total c.self.invariant c.is_sealed_in_order.ensures.order c.is_sealed_in_order.ensures.few
