-- Seat 0 plays its lines before and after the workers, and the workers theirs.
use Rattle.std.proofs.Common.{◌≡◌, ◌∙◌, ◌++◌, [], IfErr, OnOk, Err, inl, inr, map, length, ap, refl, sym, subst, append-nil}
use Rattle.std.specs.List.{AllZip}
use Rattle.ob_base.specs.declared.fault.Fault.{Fault}
use Rattle.ob_requests.specs.Tables.{variables_in}
use Rattle.ob_requests.specs.Variables.{Variables}
use Rattle.ob_worker_lines.specs.Cuts.{Lines}
use Rattle.ob_worker_lines.specs.Parts.{lines_in}
use Rattle.ob_seats.specs.Kept.{for_worker}
use Rattle.ob_seats.specs.Played.{ArePlayed, IsSeatPlayed}
use Rattle.ob_seats.specs.Received.{Entries}
use Rattle.ob_seats.specs.Stopped.{IsPartStopped}
use Rattle.ob_threads.specs.Played.{AreReceiptsOf, IsPlayedBy}
use Rattle.ob_threads.specs.Run.{AreRun, AreWorkersRun, IsGiven}
use Rattle.ob_threads.proofs.Gathered.{both_done}
use Rattle.ob_threads.proofs.Seated.{cut_receipts}
use Rattle.ob_threads.proofs.WorkersPlay.{map_of_all, seat_runs}
use Rattle.ob_threads.proofs.seats.run_seats.Goals as goal

pub returns-in-Ok-clause-played : goal.returns-in-Ok-clause-played
returns-in-Ok-clause-played g c =
    let receipts = g.C.Callers.receipts in
    let script = c.args.script.now in
    let variables = variables_in c.run_part-own.new.self.variables in
    let begun = subst (λ r. OnOk r ((entries : Entries) × (receipts c.run_part-own.result.0 ≡ receipts c.args.own ++ entries) × ArePlayed (lines_in script.before) (variables_in c.in_ok-seat.seat.variables) entries variables))
    c.in_default.is c.run_part-own.ensures.played in
    let first : receipts c.run_part-own.result.0 ≡ begun.0 = begun.1 ∙ ap (λ es. es ++ begun.0) c.requires.own in
    let is = IsPlayedBy (lines_in script.before) (map lines_in script.workers.items) (lines_in script.behind) in
    subst (λ r. OnOk r (AreReceiptsOf is c.count-begun-2.result (receipts c.run_seat-own.result.0) (map receipts c.in-Ok.theirs.items))) (sym c.told_of-ended.ensures)
    (both_done c.in-Ok.ended c.run_seat-own.result.1 _ (λ a b.
    let last = subst (λ r. OnOk r ((entries : Entries) × (receipts c.run_seat-own.result.0 ≡ receipts c.run_part-own.result.0 ++ entries) × IsSeatPlayed (lines_in script.behind) variables entries)) b c.run_seat-own.ensures.played in
    let workers = subst (λ r. OnOk r (AllZip (λ (l : Lines) (es : Entries). IsSeatPlayed l (for_worker variables) es) (map lines_in c.as_slice.result.now) (map receipts c.in-Ok.theirs.items))) a c.in-Ok.ensures.played in
    cut_receipts c.count-begun-2.result (receipts c.run_seat-own.result.0) begun.0 last.0 (sym (c.count-begun-2.ensures ∙ ap length first)) (last.1 ∙ ap (λ es. es ++ last.0) first) is (map receipts c.in-Ok.theirs.items)
    (record {
      variables = variables;
      first = subst (λ (w : Variables). ArePlayed (lines_in script.before) w begun.0 variables) c.in_ok-seat.ensures.first begun.2;
      workers_play = subst (λ ps. AllZip (λ (l : Lines) (es : Entries). IsSeatPlayed l (for_worker variables) es) (map lines_in ps) (map receipts c.in-Ok.theirs.items)) c.as_slice.ensures.value workers;
      last = last.2;
    })))

pub returns-in-Ok-clause-run : goal.returns-in-Ok-clause-run
returns-in-Ok-clause-run g c =
    let receipts = g.C.Callers.receipts in
    let known = IsGiven g.C.Callers.gives_fault in
    let script = c.args.script.now in
    let variables = variables_in c.run_part-own.new.self.variables in
    let begun = subst (λ r. OnOk r ((entries : Entries) × (receipts c.run_part-own.result.0 ≡ receipts c.args.own ++ entries) × ArePlayed (lines_in script.before) (variables_in c.in_ok-seat.seat.variables) entries variables))
    c.in_default.is c.run_part-own.ensures.played in
    let last = seat_runs known script.behind variables (receipts c.run_part-own.result.0) (receipts c.run_seat-own.result.0) c.run_seat-own.result.1 c.run_seat-own.ensures.played c.run_seat-own.ensures.stopped in
    let first : receipts c.run_part-own.result.0 ≡ begun.0 = begun.1 ∙ ap (λ es. es ++ begun.0) c.requires.own in
    cut_receipts c.count-begun-2.result (receipts c.run_seat-own.result.0) begun.0 last.0 (sym (c.count-begun-2.ensures ∙ ap length first)) (last.1 ∙ ap (λ es. es ++ last.0) first)
    (AreRun g.C.Callers.gives_fault script c.told_of-ended.result) (map receipts c.in-Ok.theirs.items)
    (inr (record {
      variables = variables;
      their_end = c.in-Ok.ended;
      own_end = c.run_seat-own.result.1;
      first = subst (λ (w : Variables). ArePlayed (lines_in script.before) w begun.0 variables) c.in_ok-seat.ensures.first begun.2;
      workers_run = subst (λ ps. AreWorkersRun known ps (for_worker variables) (map receipts c.in-Ok.theirs.items) c.in-Ok.ended) c.as_slice.ensures.value c.in-Ok.ensures.run;
      last = last.2;
      told = c.told_of-ended.ensures;
    }))

pub returns-in-Err-clause-run : goal.returns-in-Err-clause-run
returns-in-Err-clause-run g c =
    let receipts = g.C.Callers.receipts in
    let pass = c.run_part-own.result.0 in
    let known = λ (fault : Fault). g.C.Callers.gives_fault pass fault in
    let before = c.args.script.now.before in
    let variables = variables_in c.run_part-own.new.self.variables in
    let begun = subst (λ r. IfErr r (λ stopped. (entries : Entries) × (receipts pass ≡ receipts c.args.own ++ entries)
    × IsPartStopped known before.first (lines_in before) (variables_in c.in_ok-seat.seat.variables) entries stopped variables)) c.in-Err.is c.run_part-own.ensures.stopped in
    let ended = c.end-own.ensures.let_go in
    let own = receipts c.end-own.result.0 in
    cut_receipts c.count-begun.result own own [] (sym c.count-begun.ensures) (sym (append-nil own)) (AreRun g.C.Callers.gives_fault c.args.script.now (Err c.in-Err.stopped)) (map receipts c.args.theirs.items)
    (inl (
      c.in-Err.stopped,
      refl,
      refl,
      record {
        begun = begun.0;
        given_up = ended.0;
        left = variables;
        last = pass;
        whole = ended.1 ∙ ap (λ es. es ++ ended.0) (begun.1 ∙ ap (λ es. es ++ begun.0) c.requires.own);
        stops = subst (λ (w : Variables). IsPartStopped known before.first (lines_in before) w begun.0 c.in-Err.stopped variables) c.in_ok-seat.ensures.first begun.2;
        let_go = ended.2;
        idle = map_of_all (λ (es : Entries). es ≡ []) receipts c.args.theirs.items c.requires.theirs;
      },
    ))
