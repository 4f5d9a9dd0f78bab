-- What is found at the first object whose id is not less, is the object of the id, or there is none.
use Rattle.std.proofs.Common.{rules, nat_lt, ap, sym, ◌∙◌}
use Rattle.std.specs.Option.{option_copied}
use Rattle.std.proofs.lemmas.List.Sorted.{IsPartitionPoint-from_clause, IsPartitionedBy-ltb}
use Rattle.ob_tree.specs.declared.survey.Seen.{Seen}
use Rattle.ob_tree.proofs.Lookups.{non_decreasing, found_there, none_at_end, none_there}
use Rattle.ob_tree.proofs.index.seen_object.Goals as goal

pub returns-in_err-found : goal.returns-in_err-found
returns-in_err-found c =
    let parted = IsPartitionPoint-from_clause (λ (x : Seen). nat_lt x.id c.args.object) c.args.objects.now c.partition_point-place.result c.partition_point-place.ensures.partitioned (IsPartitionedBy-ltb (λ (x : Seen). x.id) c.args.objects.now c.args.object (non_decreasing (λ (x : Seen). x.id) c.args.objects.now c.requires)) (λ a r f called. search rules) in
    ap option_copied c.from_residual.ensures
    ∙ sym (none_at_end (λ (x : Seen). x.id) c.args.object c.args.objects.now (non_decreasing (λ (x : Seen). x.id) c.args.objects.now c.requires) c.partition_point-place.result parted.0 parted.1 c.in_err-found.ensures.lookup.3)

pub returns-then-eq : goal.returns-then-eq
returns-then-eq c =
    let parted = IsPartitionPoint-from_clause (λ (x : Seen). nat_lt x.id c.args.object) c.args.objects.now c.partition_point-place.result c.partition_point-place.ensures.partitioned (IsPartitionedBy-ltb (λ (x : Seen). x.id) c.args.objects.now c.args.object (non_decreasing (λ (x : Seen). x.id) c.args.objects.now c.requires)) (λ a r f called. search rules) in
    sym (found_there (λ (x : Seen). x.id) c.args.object c.args.objects.now (non_decreasing (λ (x : Seen). x.id) c.args.objects.now c.requires) c.partition_point-place.result parted.0 parted.1 c.in_ok-found.found.now
    c.in_ok-found.ensures.lookup.3.0 c.in_ok-found.ensures.lookup.1 (sym c.if-eq.ensures))

pub returns-else-eq : goal.returns-else-eq
returns-else-eq c =
    let parted = IsPartitionPoint-from_clause (λ (x : Seen). nat_lt x.id c.args.object) c.args.objects.now c.partition_point-place.result c.partition_point-place.ensures.partitioned (IsPartitionedBy-ltb (λ (x : Seen). x.id) c.args.objects.now c.args.object (non_decreasing (λ (x : Seen). x.id) c.args.objects.now c.requires)) (λ a r f called. search rules) in
    sym (none_there (λ (x : Seen). x.id) c.args.object c.args.objects.now (non_decreasing (λ (x : Seen). x.id) c.args.objects.now c.requires) c.partition_point-place.result parted.0 parted.1 c.in_ok-found.found.now
    c.in_ok-found.ensures.lookup.3.0 c.in_ok-found.ensures.lookup.1 (sym c.if-eq.ensures))
