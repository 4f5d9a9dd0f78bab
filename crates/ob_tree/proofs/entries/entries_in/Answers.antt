-- The entries of a directory lie between those of lesser ones and those of greater ones.
use Rattle.std.proofs.Common.{rules, ◌-◌, nat_lt, nat_le, map, ap, ◌∙◌, arith}
use Rattle.std.proofs.lemmas.List.Sorted.{IsPartitionPoint-from_clause, IsPartitionedBy-ltb, IsPartitionedBy-leb}
use Rattle.ob_tree.specs.declared.entries.Entry.{Entry}
use Rattle.ob_tree.specs.Index.{named_by}
use Rattle.ob_tree.proofs.Ranges.{directories_rise, range_between, named_filter}
use Rattle.ob_tree.proofs.entries.entries_in.Goals as goal

pub returns : goal.returns
returns c =
    let es = c.args.entries.now in
    let d = c.args.directory in
    let rise = directories_rise es c.requires in
    let first = IsPartitionPoint-from_clause (λ (e : Entry). nat_lt e.directory d) es c.partition_point-first.result c.partition_point-first.ensures.partitioned (IsPartitionedBy-ltb (λ (e : Entry). e.directory) es d rise) (λ a r f called. search rules) in
    let behind = IsPartitionPoint-from_clause (λ (e : Entry). nat_le e.directory d) es c.partition_point-behind.result c.partition_point-behind.ensures.partitioned (IsPartitionedBy-leb (λ (e : Entry). e.directory) es d rise) (λ a r f called. search rules) in
    ap (map named_by) (range_between (λ (e : Entry). e.directory) d es c.partition_point-first.result c.partition_point-behind.result (c.max.result - c.partition_point-first.result)
    (omega (arith, c.max.ensures)) (λ low. omega (arith, c.max.ensures, low)) (λ high. omega (arith, c.max.ensures, high)) c.partition_point-first.ensures.bound first.0 first.1 behind.0 behind.1)
    ∙ named_filter d es
