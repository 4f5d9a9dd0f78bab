-- Stamps rise, so those below one stand before the others.
use Rattle.std.proofs.Common.{◌≡◌, ◌<◌, ◌≤◌, true, false, nat_lt, drop, take, rules}
use Rattle.std.proofs.lemmas.Bool.{ltb-true, ltb-false}
use Rattle.std.proofs.lemmas.List.Elements.{All-weaker}
use Rattle.std.proofs.lemmas.List.Sorted.{IsPartitionPoint-from_clause}
use Rattle.ob_dirs.specs.declared.entry.DirEntry.{DirEntry}
use Rattle.ob_dirs.proofs.Found.{entries-parted}
use Rattle.ob_dirs.proofs.Joined.{All-first, All-others}
use Rattle.ob_dirs.proofs.runs.entries_below.Goals as goal

pub returns-clause-below : goal.returns-clause-below
returns-clause-below c =
    let es = c.args.run.now in
    let stamp = c.args.stamp in
    let parted = IsPartitionPoint-from_clause (λ (e : DirEntry). nat_lt e.stamp stamp) es c.partition_point.result c.partition_point.ensures.partitioned (entries-parted stamp es c.requires) (λ a r f called. search rules) in
    All-weaker (λ (e : DirEntry). nat_lt e.stamp stamp ≡ true) (λ e. e.stamp < stamp) (λ e is. ltb-true e.stamp stamp is) (take c.partition_point.result es)
    (All-first (λ (e : DirEntry). nat_lt e.stamp stamp ≡ true) es c.partition_point.result c.partition_point.ensures.bound parted.0)

pub returns-clause-from : goal.returns-clause-from
returns-clause-from c =
    let es = c.args.run.now in
    let stamp = c.args.stamp in
    let parted = IsPartitionPoint-from_clause (λ (e : DirEntry). nat_lt e.stamp stamp) es c.partition_point.result c.partition_point.ensures.partitioned (entries-parted stamp es c.requires) (λ a r f called. search rules) in
    All-weaker (λ (e : DirEntry). nat_lt e.stamp stamp ≡ false) (λ e. stamp ≤ e.stamp) (λ e is. ltb-false e.stamp stamp is) (drop c.partition_point.result es)
    (All-others (λ (e : DirEntry). nat_lt e.stamp stamp ≡ false) es c.partition_point.result parted.1)
