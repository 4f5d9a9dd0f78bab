-- Each slot's value is kept in turn.
use Rattle.std.proofs.Common.{◌∙◌, sym, ap, subst, arith, ◌+◌, length}
use Rattle.ob_requests.specs.Rows.{no_row}
use Rattle.ob_requests.proofs.Rows.{IsRowKept, row_goes, row_stays, none_kept}
use Rattle.ob_requests.proofs.Tables.{IsSwept, same_length, swept_stays, swept_goes, swept_all}
use Rattle.ob_requests.proofs.table.keep.Goals.{then-not-test, else-not-test}
use Rattle.ob_requests.proofs.table.keep.Goals as goal

pub index-row-requires : goal.index-row-requires
index-row-requires g c = omega (arith, c.loop-slot-test.true, c.loop-slot.invariant.1)

pub index_mut-requires : goal.index_mut-requires
index_mut-requires g c = omega (arith, c.loop-slot-test.true, c.loop-slot.invariant.1)

pub loop-slot-preserved : goal.loop-slot-preserved
loop-slot-preserved g c = elim c.if-not-test.branch [
  | then-not-test w ↦ (
    subst (λ es. IsSwept (IsRowKept (λ number passed. goal.P-post g c.args.test number passed)) (c.loop-slot.slot + 1) c.args.table.now.entries es)
        (sym (ap (λ t. t.entries) w.table-is))
        (swept_goes (IsRowKept (λ number passed. goal.P-post g c.args.test number passed)) c.loop-slot.slot c.args.table.now.entries c.loop-slot.table.entries c.index-row.result.now _
        c.index-row.ensures (row_goes (λ number passed. goal.P-post g c.args.test number passed) c.index-row.result.now w.if-not-test.ensures) c.loop-slot.invariant.0),
    ap (λ t. length t.entries) w.table-is ∙ (same_length c.loop-slot.table.entries c.loop-slot.slot _ ∙ c.loop-slot.invariant.1),
  )
  | else-not-test w ↦ (
    subst (λ es. IsSwept (IsRowKept (λ number passed. goal.P-post g c.args.test number passed)) (c.loop-slot.slot + 1) c.args.table.now.entries es)
        (sym (ap (λ t. t.entries) w.table-is))
        (swept_stays (IsRowKept (λ number passed. goal.P-post g c.args.test number passed)) c.loop-slot.slot c.args.table.now.entries c.loop-slot.table.entries c.index-row.result.now
        c.index-row.ensures (row_stays (λ number passed. goal.P-post g c.args.test number passed) c.index-row.result.now w.if-not-test.ensures) c.loop-slot.invariant.0),
    ap (λ t. length t.entries) w.table-is ∙ c.loop-slot.invariant.1,
  )
]

pub returns-clause-kept : goal.returns-clause-kept
returns-clause-kept g c =
    λ variable. (swept_all (IsRowKept (λ number passed. goal.P-post g c.args.test number passed)) no_row (none_kept (λ number passed. goal.P-post g c.args.test number passed))
    c.loop-slot.slot c.args.table.now.entries c.loop-slot.table.entries (omega (arith, c.loop-slot-test.false, c.loop-slot.invariant.1)) c.loop-slot.invariant.0 variable).0

pub returns-clause-others : goal.returns-clause-others
returns-clause-others g c =
    λ variable. let went = swept_all (IsRowKept (λ number passed. goal.P-post g c.args.test number passed)) no_row (none_kept (λ number passed. goal.P-post g c.args.test number passed))
    c.loop-slot.slot c.args.table.now.entries c.loop-slot.table.entries (omega (arith, c.loop-slot-test.false, c.loop-slot.invariant.1)) c.loop-slot.invariant.0 variable in (went.1, went.2)
