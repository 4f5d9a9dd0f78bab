-- The last run has one entry more, or is as it was.
use Rattle.std.proofs.Common.{◌-◌, Result, Ok, Err, arith, OnErr}
use Rattle.ob_dirs.proofs.Joined.{joined-kept, joined-pushed}
use Rattle.ob_dirs.proofs.runs.push_last.Goals as goal

on_err : {A E : Type 0} (r : Result A E) (P : Type 0) → P → OnErr r P
on_err (Ok x) P holds = tt
on_err (Err x) P holds = holds

pub returns-in_err-push-clause-unchanged : goal.returns-in_err-push-clause-unchanged
returns-in_err-push-clause-unchanged c =
    on_err c.from_residual.result _
    (joined-kept c.args.runs.now.items (c.len-count.result - 1) c.index_mut-run.result.now c.push.new.self (omega (arith, c.len-count.ensures, c.args.runs.now.ok.0, c.if-count-ne0.true)) c.index_mut-run.ensures.value c.in_err-push.ensures.items)

pub returns-then-len-lt-RUN-clause-last : goal.returns-then-len-lt-RUN-clause-last
returns-then-len-lt-RUN-clause-last c =
    joined-pushed c.args.runs.now.items (c.len-count.result - 1) c.index_mut-run.result.now c.push.new.self c.args.entry (omega (arith, c.len-count.ensures, c.args.runs.now.ok.0, c.if-count-ne0.true)) c.index_mut-run.ensures.value c.in_ok-push.ensures.items
