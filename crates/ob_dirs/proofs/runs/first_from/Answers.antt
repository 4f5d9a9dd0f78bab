-- The place is in the first run that has a stamp which isn't below, at the first such entry.
use Rattle.std.proofs.Common.{◌<◌, ◌∙◌, length, subst, sym, arith}
use Rattle.ob_dirs.specs.Runs.{Rises}
use Rattle.ob_dirs.proofs.Found.{place-found, run-rises}
use Rattle.ob_dirs.proofs.Joined.{run_at-read}
use Rattle.ob_dirs.proofs.runs.first_from.Goals as goal

pub entries_below-at-requires : goal.entries_below-at-requires
entries_below-at-requires c =
    let runs = c.args.runs.now in
    let i = c.runs_below-run.result in
    let inside : i < length runs = omega (arith, c.runs_below-run.ensures.within, c.if-run-runs.false) in
    let run = run_at-read runs i c.index-runs-run.result inside c.index-runs-run.is ∙ sym c.deref.ensures.value in
    subst Rises run (run-rises c.args.stamp runs i inside c.requires.rises)

pub returns : goal.returns
returns c =
    let runs = c.args.runs.now in
    let i = c.runs_below-run.result in
    let inside : i < length runs = omega (arith, c.runs_below-run.ensures.within, c.if-run-runs.false) in
    let run = run_at-read runs i c.index-runs-run.result inside c.index-runs-run.is ∙ sym c.deref.ensures.value in
    place-found c.args.stamp runs i c.entries_below-at.result c.deref.result.now c.requires.rises inside run c.runs_below-run.ensures.below (c.runs_below-run.ensures.next inside)
    c.entries_below-at.ensures.within c.entries_below-at.ensures.below c.entries_below-at.ensures.from
