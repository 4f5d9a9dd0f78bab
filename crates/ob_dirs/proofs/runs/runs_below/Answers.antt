-- Stamps rise from run to run, so the runs with only stamps below one stand before the others.
use Rattle.std.proofs.Common.{◌≡◌, true, false, rules, arith}
use Rattle.std.proofs.lemmas.List.Sorted.{IsPartitionPoint-from_clause}
use Rattle.ob_dirs.specs.Runs.{last_is_below}
use Rattle.ob_dirs.proofs.Found.{first_runs-below, runs-parted}
use Rattle.ob_dirs.proofs.Joined.{All-first, Run, run_at-holds}
use Rattle.ob_dirs.proofs.runs.runs_below.Goals as goal

pub returns-clause-below : goal.returns-clause-below
returns-clause-below c =
    let runs = c.args.runs.now in
    let stamp = c.args.stamp in
    let parted = IsPartitionPoint-from_clause (λ (run : Run). last_is_below stamp run.items) runs c.partition_point.result c.partition_point.ensures.partitioned (runs-parted stamp runs c.requires.rises c.requires.filled) (λ a r f called. search rules) in
    first_runs-below stamp runs c.partition_point.result c.requires.rises
    (All-first (λ (run : Run). last_is_below stamp run.items ≡ true) runs c.partition_point.result c.partition_point.ensures.bound parted.0)

pub returns-clause-next : goal.returns-clause-next
returns-clause-next c below =
    let runs = c.args.runs.now in
    let stamp = c.args.stamp in
    let parted = IsPartitionPoint-from_clause (λ (run : Run). last_is_below stamp run.items) runs c.partition_point.result c.partition_point.ensures.partitioned (runs-parted stamp runs c.requires.rises c.requires.filled) (λ a r f called. search rules) in
    run_at-holds (λ es. last_is_below stamp es ≡ false) runs c.partition_point.result below (λ d. parted.1 c.partition_point.result d (omega arith) below)
