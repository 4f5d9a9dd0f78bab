-- The seat's only pass is its own where it has the seat's entries.
use Rattle.std.proofs.Common.{◌≡◌, ◌∙◌, sym}
use Rattle.ob_agreement.specs.Agreement.{entries_of}
use Rattle.ob_segments.specs.Journal.{whole}
use Rattle.ob_agreement.proofs.Seats.{decided, own_has, own_with}
use Rattle.ob_agreement.proofs.compared.is_own.Goals as goal

pub returns-then-has_all : goal.returns-then-has_all
returns-then-has_all g c = (
  (λ found. own_with (whole c.args.journal.now.journal) c.args.passes.now c.args.seat c.in-Some.pass.now (sym c.in-Some.ensures) (sym c.receipts.ensures ∙ c.has_all.ensures found)),
  (λ own. c.if-has_all.true),
)

pub returns-else-has_all : goal.returns-else-has_all
returns-else-has_all g c =
    let told = decided (entries_of c.args.seat (whole c.args.journal.now.journal)) c.receipts-else-has_all.result.now c.difference.result c.is_none.result c.is_none.ensures c.difference.ensures.none c.difference.ensures.some in (
      (λ found. own_with (whole c.args.journal.now.journal) c.args.passes.now c.args.seat c.in-Some.pass.now (sym c.in-Some.ensures) (sym c.receipts-else-has_all.ensures ∙ told.0 found)),
      (λ own. told.1 (c.receipts-else-has_all.ensures ∙ own_has (whole c.args.journal.now.journal) c.args.passes.now c.args.seat c.in-Some.pass.now (sym c.in-Some.ensures) own)),
    )
