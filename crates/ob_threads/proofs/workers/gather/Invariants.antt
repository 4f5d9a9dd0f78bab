-- What was gathered so far.
use Rattle.std.proofs.Common.{◌≡◌, OnOk, Ok, All, map}
use Rattle.ob_threads.specs.Ended.{told_in}
use Rattle.ob_threads.proofs.workers.gather.Given as goal

abbrev pub invariant-loop-done : goal.invariant-loop-done
invariant-loop-done g l = (l.passes.items ≡ map (λ done. done.pass) l.yielded) × OnOk l.ended (All (λ done. done.ended ≡ Ok tt) l.yielded) × (l.ended ≡ told_in (map (λ done. done.ended) l.yielded))
