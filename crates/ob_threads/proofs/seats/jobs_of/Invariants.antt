-- The jobs so far.
use Rattle.std.proofs.Common.{◌≡◌, ◌+◌, ◌++◌, [], All, length, map, take}
use Rattle.ob_requests.specs.Tables.{variables_in}
use Rattle.ob_seats.specs.Kept.{AreHeld, for_worker}
use Rattle.ob_threads.proofs.seats.jobs_of.Given as goal

abbrev pub invariant-loop-part : goal.invariant-loop-part
invariant-loop-part g l =
    (map (λ job. job.part) l.jobs.items ≡ take l.part-index l.parts)
    × (map (λ job. job.pass) l.jobs.items ++ l.passes.items ≡ l.fn.passes.items)
    × (length l.passes.items + l.part-index ≡ length l.parts)
    × All (λ job. variables_in job.variables ≡ for_worker (variables_in l.seat.variables)) l.jobs.items
    × All (λ job. AreHeld (variables_in job.variables).tickets []) l.jobs.items
