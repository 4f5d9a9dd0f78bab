-- The worker has run its part, to the end or to where it stopped.
use Rattle.std.proofs.Common.{◌≡◌, ◌++◌, subst}
use Rattle.ob_requests.specs.Tables.{variables_in}
use Rattle.ob_requests.specs.Variables.{Variables}
use Rattle.ob_seats.specs.Received.{Entries}
use Rattle.ob_threads.specs.Run.{IsGiven}
use Rattle.ob_threads.specs.Worked.{IsSeatRun}
use Rattle.ob_threads.proofs.WorkersPlay.{seat_runs}
use Rattle.ob_threads.proofs.workers.work.Goals as goal

pub returns : goal.returns
returns g c =
    let known = IsGiven g.C.Callers.gives_fault in
    let before = g.C.Callers.receipts c.args.job.pass in
    let after = g.C.Callers.receipts c.run_seat-pass.result.0 in
    let ended = c.run_seat-pass.result.1 in (
      c.run_seat-pass.ensures.seat,
      subst (λ (variables : Variables). (entries : Entries) × (after ≡ before ++ entries) × IsSeatRun known c.args.job.part variables entries ended) c.with_variables.ensures.variables
          (seat_runs known c.args.job.part (variables_in c.with_variables.result.variables) before after ended c.run_seat-pass.ensures.played c.run_seat-pass.ensures.stopped),
    )
