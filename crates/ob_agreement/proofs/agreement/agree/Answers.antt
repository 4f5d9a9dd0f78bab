-- Which seat is reported, and that there is none.
use Rattle.std.proofs.Common.{◌≡◌, subst, arith}
use Rattle.ob_segments.specs.Journal.{whole}
use Rattle.ob_agreement.specs.Agreement.{IsAbsent, IsMismatch, IsOwn}
use Rattle.ob_agreement.proofs.Seats.{mismatch_at, mismatch_beyond}
use Rattle.ob_agreement.proofs.agreement.agree.Goals as goal

pub returns-then-not-is_own-clause-err : goal.returns-then-not-is_own-clause-err
returns-then-not-is_own-clause-err g c =
    subst (λ j. IsMismatch (whole j) c.args.passes.now c.args.seats c.told_of.result) c.journal-journal.ensures
    (mismatch_at (whole c.journal-journal.result.now.journal) c.args.passes.now c.args.seats c.told_of.result c.loop-seat.seat c.told_of.ensures.seat c.loop-seat-test.true
    (λ own. let found = c.is_own.ensures.1 own in let missed = c.if-not-is_own.true in cc) c.loop-seat.invariant c.told_of.ensures.told)

pub returns-in-Some-clause-err : goal.returns-in-Some-clause-err
returns-in-Some-clause-err g c =
    let all = c.loop-seat-test.false in
    subst (λ j. IsMismatch (whole j) c.args.passes.now c.args.seats c.told_of-in-Some.result) c.journal-journal.ensures
    (mismatch_beyond (whole c.journal-journal.result.now.journal) c.args.passes.now c.args.seats c.told_of-in-Some.result c.in-Some.seat c.told_of-in-Some.ensures.seat c.in-Some.ensures
    (λ n less. c.loop-seat.invariant n (omega (arith, less, all))) c.told_of-in-Some.ensures.told)

pub returns-in-None-clause-ok : goal.returns-in-None-clause-ok
returns-in-None-clause-ok g c =
    let all = c.loop-seat-test.false in
    λ seat. (
      (λ less. subst (λ j. IsOwn (whole j) c.args.passes.now seat) c.journal-journal.ensures (c.loop-seat.invariant seat (omega (arith, less, all)))),
      (λ high. subst (λ j. IsAbsent (whole j) c.args.passes.now seat) c.journal-journal.ensures (c.in-None.ensures seat high)),
    )
