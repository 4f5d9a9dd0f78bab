-- Behind the step the journal is a run that ends with its entry, and an open that waits has its places.
use Rattle.std.proofs.Common.{◌∙◌, ◌+◌, refl, ap, sym, subst, arith}
use Rattle.ob_model.specs.declared.reply.Answer.TheVariants.{Done, Ticket}
use Rattle.ob_model.specs.declared.reply.Event.TheVariants.{Start}
use Rattle.ob_opens.specs.Waiting.{answer_of, IfParsing, IsParseOf}
use Rattle.ob_locked.specs.Entered.{HasFew, PendingAfter}
use Rattle.ob_locked.specs.Locked.{IsKept}
use Rattle.ob_segments.specs.Journal.{whole, with_entry}
use Rattle.ob_locked.specs.Places.{places_of}
use Rattle.ob_locked.specs.Steps.{IsMade}
use Rattle.ob_locked.proofs.Keeps.{all_few, kept_behind_reply, kept_behind_ticket, is_made}
use Rattle.ob_locked.proofs.locked.Locked.start.Goals as goal

pub invariant_of-self-in-Done : goal.invariant_of-self-in-Done
invariant_of-self-in-Done g c =
    let room = c.in-Ok.ensures in
    let made = c.in-Ok-start_core.ensures in
    let entry = c.in-Ok-start_core.made.entry in
    kept_behind_reply g.T.TypeSet.procedures (record { first = c.self.inside.first.value; journal = c.self.inside.journal.journal; state = c.self.inside.core })
    c.self.inside.reserved c.self.inside.journal.places c.self.inside.book.total c.self.invariant
    c.start_core.new.core (Start c.args.process c.args.command.now) (answer_of c.in-Ok-start_core.made.started) c.in-Ok.writer.number c.in-Ok.writer.seat entry
    c.enter.new.journal.journal made.step made.entry room.number (c.enter.ensures.journal ∙ ap (λ j. with_entry j entry) room.same)
    c.enter.new.journal.places c.enter.new.book.total
    (subst (λ x. PendingAfter HasFew c.self.inside.core.pending (answer_of x) c.start_core.new.core.pending) c.in-Done.is made.pending)
    (omega (arith, room.few)) (omega (arith, room.room, c.enter.ensures.places)) c.enter.ensures.counted

pub invariant_of-self-in-Parsing : goal.invariant_of-self-in-Parsing
invariant_of-self-in-Parsing g c =
    let room = c.in-Ok.ensures in
    let made = c.in-Ok-start_core.ensures in
    let entry = c.in-Ok-start_core.made.entry in
    subst (λ n. IsKept g.T.TypeSet.procedures (record { first = c.self.inside.first.value; journal = c.enter.new.journal.journal; state = c.start_core.new.core }) (c.self.inside.reserved + n) c.enter.new.journal.places c.enter.new.book.total)
    (sym (c.places_at.ensures.value ∙ ap (places_of c.start_core.new.core) c.ticket.ensures))
    (kept_behind_ticket g.T.TypeSet.procedures (record { first = c.self.inside.first.value; journal = c.self.inside.journal.journal; state = c.self.inside.core })
    c.self.inside.reserved c.self.inside.journal.places c.self.inside.book.total c.self.invariant
    c.start_core.new.core (Start c.args.process c.args.command.now) (answer_of c.in-Ok-start_core.made.started) c.in-Ok.writer.number c.in-Ok.writer.seat entry
    c.enter.new.journal.journal made.step made.entry room.number (c.enter.ensures.journal ∙ ap (λ j. with_entry j entry) room.same)
    c.enter.new.journal.places c.enter.new.book.total c.in-Parsing.parsing.ticket
    (subst (λ x. PendingAfter HasFew c.self.inside.core.pending (answer_of x) c.start_core.new.core.pending) c.in-Parsing.is made.pending)
    (omega (arith, room.few)) (omega (arith, room.room, c.enter.ensures.places)) c.enter.ensures.counted)

pub returns-in-Done-clause-made : goal.returns-in-Done-clause-made
returns-in-Done-clause-made g c =
    let room = c.in-Ok.ensures in
    let made = c.in-Ok-start_core.ensures in
    let entry = c.in-Ok-start_core.made.entry in
    subst (λ h. IsMade g.T.TypeSet.procedures h c.args.pass.now (Start c.args.process c.args.command.now) (Done c.in-Done.reply) (record { first = c.self.inside.first.value; journal = c.enter.new.journal.journal; state = c.start_core.new.core }) c.enter.new.pass) c.self.view_is
    (is_made g.T.TypeSet.procedures (record { first = c.self.inside.first.value; journal = c.self.inside.journal.journal; state = c.self.inside.core }) (record { first = c.self.inside.first.value; journal = c.enter.new.journal.journal; state = c.start_core.new.core }) c.args.pass.now c.enter.new.pass
    (Start c.args.process c.args.command.now) (Start c.args.process c.args.command.now) (Done c.in-Done.reply) (answer_of c.in-Ok-start_core.made.started)
    c.in-Ok.writer.number c.in-Ok.writer.seat entry c.in-Ok-start_core.made.receipt
    refl (ap answer_of c.in-Done.is) made.step refl (c.enter.ensures.journal ∙ ap (λ j. with_entry j entry) room.same) c.enter.ensures.pass made.entry made.receipt
    room.number room.seat)

pub returns-in-Parsing-clause-made : goal.returns-in-Parsing-clause-made
returns-in-Parsing-clause-made g c =
    let room = c.in-Ok.ensures in
    let made = c.in-Ok-start_core.ensures in
    let entry = c.in-Ok-start_core.made.entry in
    subst (λ h. IsMade g.T.TypeSet.procedures h c.args.pass.now (Start c.args.process c.args.command.now) (Ticket c.new.result.ticket) (record { first = c.self.inside.first.value; journal = c.enter.new.journal.journal; state = c.start_core.new.core }) c.enter.new.pass) c.self.view_is
    (is_made g.T.TypeSet.procedures (record { first = c.self.inside.first.value; journal = c.self.inside.journal.journal; state = c.self.inside.core }) (record { first = c.self.inside.first.value; journal = c.enter.new.journal.journal; state = c.start_core.new.core }) c.args.pass.now c.enter.new.pass
    (Start c.args.process c.args.command.now) (Start c.args.process c.args.command.now) (Ticket c.new.result.ticket) (answer_of c.in-Ok-start_core.made.started)
    c.in-Ok.writer.number c.in-Ok.writer.seat entry c.in-Ok-start_core.made.receipt
    refl (ap answer_of c.in-Parsing.is ∙ ap (λ x. Ticket x.ticket) (sym c.new.ensures)) made.step refl (c.enter.ensures.journal ∙ ap (λ j. with_entry j entry) room.same) c.enter.ensures.pass made.entry made.receipt
    room.number room.seat)

pub returns-in-Parsing-clause-waits : goal.returns-in-Parsing-clause-waits
returns-in-Parsing-clause-waits g c =
    subst (λ p. IsParseOf c.start_core.new.core p) (sym c.new.ensures)
    (subst (λ s. IfParsing s (IsParseOf c.start_core.new.core)) c.in-Parsing.is c.in-Ok-start_core.ensures.parse)

pub enter-requires-clause-few : goal.enter-requires-clause-few
enter-requires-clause-few g c =
    all_few g.T.TypeSet.procedures (record { first = c.self.inside.first.value; journal = c.self.inside.journal.journal; state = c.self.inside.core })
    c.self.inside.reserved c.self.inside.journal.places c.self.inside.book.total c.self.invariant c.is_sealed_in_order.ensures.order c.is_sealed_in_order.ensures.few
