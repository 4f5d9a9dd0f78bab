-- The script is read worker by worker, and what follows them is a part or stands in a wrong place.
use Rattle.std.proofs.Common.{◌≡◌, ◌+◌, ◌≢◌, List, [], ◌∷◌, ◌++◌, length, sym, subst, arith, rules}
use Rattle.std.proofs.lemmas.Grind.{common_steps}
use Rattle.ob_worker_lines.specs.declared.part.Part.{Part}
use Rattle.ob_worker_lines.specs.Cuts.{most_workers}
use Rattle.ob_worker_lines.proofs.SoFar.{IsTaken, IsReadTo, read_worker, full_bad, misplaced_bad, tells_from, behind_runnable}
use Rattle.ob_worker_lines.proofs.script.cut.Goals as goal

pub returns-then-len-eq-MOST_WORKERS-clause-fault : goal.returns-then-len-eq-MOST_WORKERS-clause-fault
returns-then-len-eq-MOST_WORKERS-clause-fault c =
    full_bad _ _ _ _ _ c.in-Some.lines.now c.loop-lines.invariant c.in-Some.ensures.found (omega (arith, c.loop-lines.workers.ok.0))

pub loop-lines-preserved : goal.loop-lines-preserved
loop-lines-preserved c =
    let e = c.take_part-worker.ensures in
    let taken : IsTaken c.in-Some.lines.now (c.loop-lines.number + 1) c.take_part-worker.result =
    record { whole = e.lines; own = e.seat_lines; stopped = e.stopped; begins = e.first; ends = e.number; bound = e.bound } in
    let not_full : length c.loop-lines.workers.items ≢ most_workers = omega (arith, c.loop-lines.workers.ok.0) in
    let pushed : c.push.new.self.items ≡ c.loop-lines.workers.items ++ c.take_part-worker.result.part ∷ [] = search (rules, common_steps) in
    let P : List Part → Type 0 = λ ws. IsReadTo c.args.script.now c.take_part-start.result.part ws c.take_part-worker.result.rest.now c.take_part-worker.result.number in
    subst P (sym pushed) (read_worker _ _ _ _ _ c.in-Some.lines.now _ c.loop-lines.invariant c.in-Some.ensures.found c.in-Some.ensures.shorter taken not_full)

pub returns-clause-fault : goal.returns-clause-fault
returns-clause-fault c =
    misplaced_bad _ _ _ _ _ _ _ c.loop-lines.invariant c.in_default.ensures.none
    (tells_from c.is_empty.result c.loop-lines.workers.items c.loop-lines.workers.len c.is_empty.ensures (omega (arith, c.loop-lines.workers.ok.0))) c.in-Err.ensures.misplaced

pub returns-in-Ok-clause-parts : goal.returns-in-Ok-clause-parts
returns-in-Ok-clause-parts c = behind_runnable _ _ _ _ _ _ c.in-Ok.behind c.loop-lines.invariant c.in-Ok.ensures.behind
