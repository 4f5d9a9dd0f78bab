-- The first pass is that of seat 0, and the others are the workers'; the journal is what the lines play.
use Rattle.std.proofs.Common.{◌≡◌, ◌∙◌, ℕ, suc, ◌+◌, List, ◌∷◌, ◌++◌, map, length, ap, sym, subst, arith}
use Rattle.std.proofs.lemmas.List.{length-map}
use Rattle.std.proofs.lemmas.List.FromFn.{length-map-range_with_len}
use Rattle.std.specs.List.{range_with_len, slice_index_or, remove}
use Rattle.std.specs.Arc.{arc_value}
use Rattle.ob_entries.specs.Segments.{joined}
use Rattle.ob_locked.specs.Opened.{fresh_pass, fresh_passes}
use Rattle.ob_locked.specs.Passed.{Passed}
use Rattle.ob_worker_lines.specs.Parts.{lines_in}
use Rattle.ob_threads.specs.Faults.{IsFaultAt}
use Rattle.ob_threads.specs.Played.{IsInOrder, IsJournalOf, IsPlayedBy, SeatsRelation}
use Rattle.ob_threads.specs.Run.{AreRun}
use Rattle.ob_threads.proofs.Gathered.{then_done}
use Rattle.ob_threads.proofs.Seated.{settled_of}
use Rattle.ob_threads.proofs.run.play_shared.Goals as goal

first_and_others : {K : Type 0} (workers : ℕ) (passes : List (Passed K)) → passes ≡ fresh_passes (workers + 1) → passes ≡ fresh_pass 0 ∷ map fresh_pass (range_with_len 1 workers)
first_and_others workers passes are =
    let one_more : workers + 1 ≡ suc workers = omega arith in
    are ∙ ap (λ n. map fresh_pass (range_with_len 0 n)) one_more

pub remove-own-requires : goal.remove-own-requires
remove-own-requires g c =
    let opened : length c.args.passes.items ≡ length c.args.parts.now.workers.items + 1 = ap length c.requires.passes ∙ length-map-range_with_len fresh_pass 0 (length c.args.parts.now.workers.items + 1) in
    omega (arith, opened, c.args.passes.ok.0)

pub run_lent-requires-clause-own : goal.run_lent-requires-clause-own
run_lent-requires-clause-own g c κs within =
    c.remove-own.ensures.value
    ∙ ap (λ passes. slice_index_or passes 0 c.remove-own.result) (first_and_others (length c.args.parts.now.workers.items) c.args.passes.items c.requires.passes)

pub run_lent-requires-clause-theirs : goal.run_lent-requires-clause-theirs
run_lent-requires-clause-theirs g c κs within =
    c.remove-own.ensures.items ∙ ap (λ passes. remove passes 0) (first_and_others (length c.args.parts.now.workers.items) c.args.passes.items c.requires.passes)

pub run_lent-requires-clause-passes : goal.run_lent-requires-clause-passes
run_lent-requires-clause-passes g c κs within =
    let opened : length c.args.passes.items ≡ length c.args.parts.now.workers.items + 1 = ap length c.requires.passes ∙ length-map-range_with_len fresh_pass 0 (length c.args.parts.now.workers.items + 1) in
    omega (arith, opened, c.remove-own.ensures.len, c.remove-own.new.self.ok.0, c.args.passes.ok.0)

pub returns-then-is_in_order-clause-finished : goal.returns-then-is_in_order-clause-finished
returns-then-is_in_order-clause-finished g c =
    let parts = c.args.parts.now in
    let workers = length parts.workers.items in
    let returned = c.in-Ok.field-0 in
    let closed = c.in-Ok-close in
    let last = closed.field-0.journal in
    let journal = joined (map arc_value closed.field-0.sealed.items) ++ last.entries in
    let order : IsInOrder returned.begun journal = subst (λ ss. IsInOrder returned.begun (joined (map arc_value ss) ++ last.entries)) c.as_slice.ensures.value (c.is_in_order.ensures.0 c.if-is_in_order.true) in
    let is = IsPlayedBy (lines_in parts.before) (map lines_in parts.workers.items) (lines_in parts.behind) in
    let settled = λ (Is : SeatsRelation). settled_of Is journal workers c.args.shared returned.begun returned.passes.items c.requires.seats c.in-Ok.ensures.passes closed.ensures.settled order in
    record {
      first = closed.ensures.run.0;
      state = closed.field-0.core;
      machine = closed.ensures.run.1;
      are_sealed = closed.ensures.sealed;
      last_is = closed.ensures.open;
      run = settled (AreRun IsFaultAt parts returned.ended) c.in-Ok.ensures.run;
      played = then_done _ _ returned.ended (λ played. subst (λ n. IsJournalOf is n journal) (sym (length-map parts.workers.items lines_in)) (settled is played)) c.in-Ok.ensures.played;
    }
