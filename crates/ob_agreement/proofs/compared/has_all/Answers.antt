-- The receipts that were gone through go on following the entries of the seat.
use Rattle.std.proofs.Common.{◌≡◌, ◌∙◌, ap, sym, subst, arith}
use Rattle.ob_segments.specs.Journal.{whole}
use Rattle.ob_agreement.proofs.Seats.{Follows, follows, follows_all}
use Rattle.ob_agreement.proofs.compared.has_all.Goals as goal

pub loop-receipt-preserved : goal.loop-receipt-preserved
loop-receipt-preserved g c =
    let number = ap (λ e. e.number) c.receipt.view_is in
    let rises = c.if-receipt-last.false in
    subst (λ n. Follows c.args.seat (whole c.args.journal.now.journal) c.args.receipts.now n c.next.new.self) (sym number)
    (follows c.args.seat (whole c.args.journal.now.journal) c.args.receipts.now c.loop-receipt.last c.in-Some.receipt.now c.next.new.self (omega (arith, rises, number)) (c.has_entry.ensures.0 c.if-not-has_entry.false)
    (ap (λ e. e.seat) (sym c.receipt.view_is) ∙ c.if-receipt-seat.false)
    (subst (Follows c.args.seat (whole c.args.journal.now.journal) c.args.receipts.now c.loop-receipt.last) c.in-Some.ensures.steps c.loop-receipt.invariant))

pub returns : goal.returns
returns g c =
    λ _. follows_all c.args.seat (whole c.args.journal.now.journal) c.args.receipts.now c.loop-receipt.last
    (subst (Follows c.args.seat (whole c.args.journal.now.journal) c.args.receipts.now c.loop-receipt.last) c.in_default.ensures.steps.0 c.loop-receipt.invariant)
    (sym c.len.ensures.value ∙ c.if-len-count.false ∙ c.requires)
