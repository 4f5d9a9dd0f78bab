-- Each worker can be run, and what becomes of it is reported at its place.
use Rattle.std.proofs.Common.{◌≡◌, ◌∙◌, sym, subst, [], get_or}
use mir.Syntax.{of_param}
use denote.Param.Send.{Quiet-if}
use Rattle.std.specs.Vec.{vec_len}
use Rattle.ob_requests.specs.Tables.{variables_in}
use Rattle.ob_seats.specs.Kept.{AreHeld}
use Rattle.ob_threads.specs.Run.{IsGiven}
use Rattle.ob_threads.specs.Worked.{CanRun, IsWorked}
use Rattle.ob_threads.proofs.Gathered.{if_both, zipped}
use Rattle.ob_threads.proofs.workers.run_workers.Goals as goal

pub map_vec-requires-after_bounds : goal.map_vec-requires-after_bounds
map_vec-requires-after_bounds g c κs within = λ i x inside is. (
  (subst (λ j. CanRun j.part) (sym is) (c.requires.parts i x inside), subst (λ j. AreHeld (variables_in j.variables).tickets []) (sym is) (c.requires.variables i x inside)),
  (
    record { owned = c.type_bounds.send-C-Pass.owned; leaving = λ k. Quiet-if (k (of_param 2)) _ _ (λ x w. tt) (λ x w. tt) },
    record { shared = c.type_bounds.sync-H.shared },
    record { shared = c.type_bounds.sync-C.shared },
  ),
)

pub returns : goal.returns
returns g c =
    if_both (λ v. vec_len v ≡ vec_len c.args.jobs) _ _ c.map_vec.result
    (λ worked len each. zipped (λ job done. IsWorked (IsGiven (λ pass fault. g.C.Callers.gives_fault pass fault)) job.part (variables_in job.variables) (g.C.Callers.seat_of job.pass) (g.C.Callers.seat_of done.pass) (g.C.Callers.receipts job.pass) (g.C.Callers.receipts done.pass) done.ended)
    c.args.jobs.items worked.items (sym worked.ok.0 ∙ (len ∙ c.args.jobs.ok.0))
    (λ i a b inside. let given = (each i b inside).1 in
    subst (λ job. IsWorked (IsGiven (λ pass fault. g.C.Callers.gives_fault pass fault)) job.part (variables_in job.variables) (g.C.Callers.seat_of job.pass) (g.C.Callers.seat_of (get_or worked.items i b).pass) (g.C.Callers.receipts job.pass)
    (g.C.Callers.receipts (get_or worked.items i b).pass) (get_or worked.items i b).ended) (sym (given.job_is a)) given.call.met))
    c.map_vec.ensures.len c.map_vec.ensures.each
