-- The workers' passes are those that they were given, with what their lines play.
use Rattle.std.proofs.Common.{◌≡◌, ◌∙◌, [], All, map, ap, sym, subst}
use Rattle.std.specs.List.{AllZip}
use Rattle.ob_requests.specs.Tables.{variables_in}
use Rattle.ob_worker_lines.specs.Cuts.{Lines}
use Rattle.ob_worker_lines.specs.Parts.{lines_in}
use Rattle.ob_seats.specs.Kept.{for_worker}
use Rattle.ob_seats.specs.Played.{IsSeatPlayed}
use Rattle.ob_seats.specs.Received.{Entries}
use Rattle.ob_threads.specs.Run.{AreWorkersRun, IsGiven}
use Rattle.ob_threads.specs.Worked.{CanRun}
use Rattle.ob_threads.proofs.Gathered.{if_both, if_then, then_done}
use Rattle.ob_threads.proofs.WorkersPlay.{mapped, all_of_map, are_run, seats_stay, all_play}
use Rattle.ob_threads.proofs.seats.run_all.Goals as goal

pub run_workers-requires-clause-parts : goal.run_workers-requires-clause-parts
run_workers-requires-clause-parts g c κs within = all_of_map CanRun (λ job. job.part) c.in_ok-jobs.jobs.items (subst (All CanRun) (sym c.in_ok-jobs.ensures.parts) c.requires.parts)

pub returns-clause-seats : goal.returns-clause-seats
returns-clause-seats g c =
    let seat_of = g.C.Callers.seat_of in
    if_then _ _ c.gather.result
    (λ ran passes. ap (map seat_of) passes ∙ (mapped seat_of (λ done. done.pass) c.in_ok-worked.worked.items
    ∙ (seats_stay (IsGiven g.C.Callers.gives_fault) (λ job. job.part) (λ job. variables_in job.variables) (λ job. seat_of job.pass) (λ job. g.C.Callers.receipts job.pass) (λ done. seat_of done.pass) (λ done. g.C.Callers.receipts done.pass) (λ done. done.ended)
    c.in_ok-jobs.jobs.items c.in_ok-worked.worked.items c.in_ok-worked.ensures
    ∙ (sym (mapped seat_of (λ job. job.pass) c.in_ok-jobs.jobs.items) ∙ ap (map seat_of) c.in_ok-jobs.ensures.passes))))
    c.gather.ensures.passes

pub returns-clause-played : goal.returns-clause-played
returns-clause-played g c =
    let receipts = g.C.Callers.receipts in
    let variables = for_worker (variables_in c.args.seat.now.variables) in
    let fresh = all_of_map (λ pass. receipts pass ≡ []) (λ job. job.pass) c.in_ok-jobs.jobs.items (subst (All (λ pass. receipts pass ≡ [])) (sym c.in_ok-jobs.ensures.passes) c.requires.fresh) in
    if_both _ _ _ c.gather.result
    (λ ran passes ended. then_done _ _ ran.1
    (λ done.
    subst (λ ls. AllZip (λ (l : Lines) (es : Entries). IsSeatPlayed l variables es) ls (map receipts ran.0.items)) (sym (mapped lines_in (λ job. job.part) c.in_ok-jobs.jobs.items) ∙ ap (map lines_in) c.in_ok-jobs.ensures.parts)
    (subst (λ rs. AllZip (λ (l : Lines) (es : Entries). IsSeatPlayed l variables es) (map (λ job. lines_in job.part) c.in_ok-jobs.jobs.items) rs) (sym (ap (map receipts) passes ∙ mapped receipts (λ done. done.pass) c.in_ok-worked.worked.items))
    (all_play (IsGiven g.C.Callers.gives_fault) (λ job. job.part) (λ job. variables_in job.variables) (λ job. g.C.Callers.seat_of job.pass) (λ job. receipts job.pass) (λ done. g.C.Callers.seat_of done.pass) (λ done. receipts done.pass) (λ done. done.ended) variables
    c.in_ok-jobs.jobs.items c.in_ok-worked.worked.items c.in_ok-worked.ensures done fresh c.in_ok-jobs.ensures.variables)))
    ended)
    c.gather.ensures.passes c.gather.ensures.ended

pub returns-clause-run : goal.returns-clause-run
returns-clause-run g c =
    let receipts = g.C.Callers.receipts in
    let variables = for_worker (variables_in c.args.seat.now.variables) in
    let known = IsGiven g.C.Callers.gives_fault in
    let fresh = all_of_map (λ pass. receipts pass ≡ []) (λ job. job.pass) c.in_ok-jobs.jobs.items (subst (All (λ pass. receipts pass ≡ [])) (sym c.in_ok-jobs.ensures.passes) c.requires.fresh) in
    if_both _ _ _ c.gather.result
    (λ ran passes told. subst (λ ps. AreWorkersRun known ps variables (map receipts ran.0.items) ran.1) c.in_ok-jobs.ensures.parts
    (are_run known (λ job. job.part) (λ job. variables_in job.variables) (λ job. g.C.Callers.seat_of job.pass) (λ job. receipts job.pass) (λ done. g.C.Callers.seat_of done.pass) (λ done. receipts done.pass) (λ done. done.ended) variables
    c.in_ok-jobs.jobs.items c.in_ok-worked.worked.items (map receipts ran.0.items) ran.1 c.in_ok-worked.ensures fresh c.in_ok-jobs.ensures.variables (ap (map receipts) passes ∙ mapped receipts (λ done. done.pass) c.in_ok-worked.worked.items) told))
    c.gather.ensures.passes c.gather.ensures.told
