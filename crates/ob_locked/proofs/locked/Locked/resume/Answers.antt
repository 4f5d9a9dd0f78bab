-- Behind a resume the journal is a run that ends with its entry, and the open that waited has given its places back.
use Rattle.std.proofs.Common.{◌∙◌, ◌+◌, ◌-◌, ℕ, refl, ap, sym, subst, arith}
use Rattle.ob_model.specs.declared.reply.Answer.TheVariants.{Done, Ticket}
use Rattle.ob_model.specs.declared.reply.Event.TheVariants.{Resume}
use Rattle.ob_types.specs.Pending.{run_of_end}
use Rattle.ob_types.specs.Parse.{asked_of}
use Rattle.ob_opens.specs.Waiting.{answer_of, IfParsing, IsAwaited, IsParseOf}
use Rattle.ob_locked.specs.Locked.{IsKept}
use Rattle.ob_locked.specs.Passed.{IsKnown}
use Rattle.ob_segments.specs.Journal.{whole, with_entry}
use Rattle.ob_locked.specs.Places.{places_of}
use Rattle.ob_locked.specs.Steps.{IsMade, IsNotResumed}
use Rattle.ob_locked.proofs.Placed.{found_places}
use Rattle.ob_locked.proofs.Keeps.{all_few, kept_behind_end, kept_behind_next, place_behind_end, is_made, not_resumed}
use Rattle.ob_locked.proofs.locked.Locked.resume.Goals as goal

pub overflow_sub-left : goal.overflow_sub-left
overflow_sub-left g c = omega (arith, found_places c.ticket.result c.self.inside.core.pending, c.places_at.ensures.value, c.self.invariant.reserved)

pub returns-in-Err-clause-fault : goal.returns-in-Err-clause-fault
returns-in-Err-clause-fault g c =
    let known : IsKnown (whole c.self.inside.journal.journal) c.args.pass.now.receipts = c.is_known.ensures.0 c.if-not-is_known.false in
    subst (λ h. IsNotResumed g.T.TypeSet.procedures h c.args.pass.now (asked_of c.args.parsed) c.in-Err.fault) c.self.view_is
    (not_resumed g.T.TypeSet.procedures (record { first = c.self.inside.first.value; journal = c.self.inside.journal.journal; state = c.self.inside.core }) c.args.pass.now
    (asked_of c.into_parts-parsed.result.0) (asked_of c.args.parsed) c.in-Err.fault (ap asked_of c.into_parts-parsed.ensures) known c.in-Err.ensures.fault)

pub enter-requires-clause-room : goal.enter-requires-clause-room
enter-requires-clause-room g c =
    let made = c.in-Ok-resume_core.ensures in
    let q = c.into_parts-parsed.result.0 in
    let entry = c.in-Ok-resume_core.made.entry in
    let one =
    place_behind_end g.T.TypeSet.procedures (record { first = c.self.inside.first.value; journal = c.self.inside.journal.journal; state = c.self.inside.core })
    c.self.inside.reserved c.self.inside.journal.places c.self.inside.book.total c.self.invariant
    c.resume_core.new.core (Resume q.ticket (run_of_end q.outcome)) (answer_of c.in-Ok-resume_core.made.started) c.next_writer-writer.result.number c.next_writer-writer.result.seat entry
    (with_entry c.self.inside.journal.journal entry) made.step made.entry c.next_writer-writer.ensures.number refl q.ticket made.pending in
    omega (arith, one)

pub invariant_of-self-in-Done : goal.invariant_of-self-in-Done
invariant_of-self-in-Done g c =
    let made = c.in-Ok-resume_core.ensures in
    let q = c.into_parts-parsed.result.0 in
    let entry = c.in-Ok-resume_core.made.entry in
    kept_behind_end g.T.TypeSet.procedures (record { first = c.self.inside.first.value; journal = c.self.inside.journal.journal; state = c.self.inside.core })
    c.self.inside.reserved c.self.inside.journal.places c.self.inside.book.total c.self.invariant
    c.resume_core.new.core (Resume q.ticket (run_of_end q.outcome)) (answer_of c.in-Ok-resume_core.made.started) c.next_writer-writer.result.number c.next_writer-writer.result.seat entry
    c.enter.new.journal.journal made.step made.entry c.next_writer-writer.ensures.number c.enter.ensures.journal q.ticket made.pending
    (c.self.inside.reserved - c.places_at.result) c.enter.new.journal.places c.enter.new.book.total c.in-Done.reply (ap answer_of c.in-Done.is)
    (ap (λ (n : ℕ). c.self.inside.reserved - n) (c.places_at.ensures.value ∙ ap (places_of c.self.inside.core) c.ticket.ensures)) c.enter.ensures.places c.enter.ensures.counted

pub invariant_of-self-in-Parsing : goal.invariant_of-self-in-Parsing
invariant_of-self-in-Parsing g c =
    let made = c.in-Ok-resume_core.ensures in
    let q = c.into_parts-parsed.result.0 in
    let entry = c.in-Ok-resume_core.made.entry in
    subst (λ n. IsKept g.T.TypeSet.procedures (record { first = c.self.inside.first.value; journal = c.enter.new.journal.journal; state = c.resume_core.new.core }) (c.self.inside.reserved - c.places_at.result + n) c.enter.new.journal.places c.enter.new.book.total)
    (sym (c.places_at-in-Parsing.ensures.value ∙ ap (places_of c.resume_core.new.core) c.ticket-in-Parsing.ensures))
    (kept_behind_next g.T.TypeSet.procedures (record { first = c.self.inside.first.value; journal = c.self.inside.journal.journal; state = c.self.inside.core })
    c.self.inside.reserved c.self.inside.journal.places c.self.inside.book.total c.self.invariant
    c.resume_core.new.core (Resume q.ticket (run_of_end q.outcome)) (answer_of c.in-Ok-resume_core.made.started) c.next_writer-writer.result.number c.next_writer-writer.result.seat entry
    c.enter.new.journal.journal made.step made.entry c.next_writer-writer.ensures.number c.enter.ensures.journal q.ticket made.pending
    (c.self.inside.reserved - c.places_at.result) c.enter.new.journal.places c.enter.new.book.total c.in-Parsing.parsing.ticket (ap answer_of c.in-Parsing.is)
    (ap (λ (n : ℕ). c.self.inside.reserved - n) (c.places_at.ensures.value ∙ ap (places_of c.self.inside.core) c.ticket.ensures)) c.enter.ensures.places c.enter.ensures.counted)

pub returns-in-Done-clause-made : goal.returns-in-Done-clause-made
returns-in-Done-clause-made g c =
    let made = c.in-Ok-resume_core.ensures in
    let q = c.into_parts-parsed.result.0 in
    let p = c.args.parsed in
    subst (λ h. IsMade g.T.TypeSet.procedures h c.args.pass.now (Resume p.ticket (run_of_end p.outcome)) (Done c.in-Done.reply) (record { first = c.self.inside.first.value; journal = c.enter.new.journal.journal; state = c.resume_core.new.core }) c.enter.new.pass) c.self.view_is
    (is_made g.T.TypeSet.procedures (record { first = c.self.inside.first.value; journal = c.self.inside.journal.journal; state = c.self.inside.core }) (record { first = c.self.inside.first.value; journal = c.enter.new.journal.journal; state = c.resume_core.new.core }) c.args.pass.now c.enter.new.pass
    (Resume p.ticket (run_of_end p.outcome)) (Resume q.ticket (run_of_end q.outcome)) (Done c.in-Done.reply) (answer_of c.in-Ok-resume_core.made.started)
    c.next_writer-writer.result.number c.next_writer-writer.result.seat c.in-Ok-resume_core.made.entry c.in-Ok-resume_core.made.receipt
    (ap (λ x. Resume x.ticket (run_of_end x.outcome)) c.into_parts-parsed.ensures) (ap answer_of c.in-Done.is) made.step refl c.enter.ensures.journal c.enter.ensures.pass made.entry made.receipt
    c.next_writer-writer.ensures.number (c.next_writer-writer.ensures.seat ∙ c.seat.ensures))

pub returns-in-Parsing-clause-made : goal.returns-in-Parsing-clause-made
returns-in-Parsing-clause-made g c =
    let made = c.in-Ok-resume_core.ensures in
    let q = c.into_parts-parsed.result.0 in
    let p = c.args.parsed in
    subst (λ h. IsMade g.T.TypeSet.procedures h c.args.pass.now (Resume p.ticket (run_of_end p.outcome)) (Ticket c.new-in-Parsing.result.ticket) (record { first = c.self.inside.first.value; journal = c.enter.new.journal.journal; state = c.resume_core.new.core }) c.enter.new.pass) c.self.view_is
    (is_made g.T.TypeSet.procedures (record { first = c.self.inside.first.value; journal = c.self.inside.journal.journal; state = c.self.inside.core }) (record { first = c.self.inside.first.value; journal = c.enter.new.journal.journal; state = c.resume_core.new.core }) c.args.pass.now c.enter.new.pass
    (Resume p.ticket (run_of_end p.outcome)) (Resume q.ticket (run_of_end q.outcome)) (Ticket c.new-in-Parsing.result.ticket) (answer_of c.in-Ok-resume_core.made.started)
    c.next_writer-writer.result.number c.next_writer-writer.result.seat c.in-Ok-resume_core.made.entry c.in-Ok-resume_core.made.receipt
    (ap (λ x. Resume x.ticket (run_of_end x.outcome)) c.into_parts-parsed.ensures) (ap answer_of c.in-Parsing.is ∙ ap (λ x. Ticket x.ticket) (sym c.new-in-Parsing.ensures)) made.step refl c.enter.ensures.journal c.enter.ensures.pass made.entry made.receipt
    c.next_writer-writer.ensures.number (c.next_writer-writer.ensures.seat ∙ c.seat.ensures))

pub returns-in-Done-clause-known : goal.returns-in-Done-clause-known
returns-in-Done-clause-known g c =
    subst (λ h. IsKnown (whole h.journal) c.args.pass.now.receipts) c.self.view_is (c.is_known.ensures.0 c.if-not-is_known.false)

pub returns-in-Parsing-clause-known : goal.returns-in-Parsing-clause-known
returns-in-Parsing-clause-known g c =
    subst (λ h. IsKnown (whole h.journal) c.args.pass.now.receipts) c.self.view_is (c.is_known.ensures.0 c.if-not-is_known.false)

pub returns-in-Done-clause-awaited : goal.returns-in-Done-clause-awaited
returns-in-Done-clause-awaited g c =
    subst (λ h. IsAwaited g.T.TypeSet.procedures h.state (asked_of c.args.parsed)) c.self.view_is
    (subst (λ p. IsAwaited g.T.TypeSet.procedures c.self.inside.core (asked_of p)) c.into_parts-parsed.ensures c.in-Ok-resume_core.ensures.awaited)

pub returns-in-Parsing-clause-awaited : goal.returns-in-Parsing-clause-awaited
returns-in-Parsing-clause-awaited g c =
    subst (λ h. IsAwaited g.T.TypeSet.procedures h.state (asked_of c.args.parsed)) c.self.view_is
    (subst (λ p. IsAwaited g.T.TypeSet.procedures c.self.inside.core (asked_of p)) c.into_parts-parsed.ensures c.in-Ok-resume_core.ensures.awaited)

pub returns-in-Parsing-clause-waits : goal.returns-in-Parsing-clause-waits
returns-in-Parsing-clause-waits g c =
    subst (λ p. IsParseOf c.resume_core.new.core p) (sym c.new-in-Parsing.ensures)
    (subst (λ s. IfParsing s (IsParseOf c.resume_core.new.core)) c.in-Parsing.is c.in-Ok-resume_core.ensures.parse)

pub enter-requires-clause-few : goal.enter-requires-clause-few
enter-requires-clause-few g c =
    all_few g.T.TypeSet.procedures (record { first = c.self.inside.first.value; journal = c.self.inside.journal.journal; state = c.self.inside.core })
    c.self.inside.reserved c.self.inside.journal.places c.self.inside.book.total c.self.invariant c.is_sealed_in_order.ensures.order c.is_sealed_in_order.ensures.few
