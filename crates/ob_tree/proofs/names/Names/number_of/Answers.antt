-- As many objects without a name have lesser ids as come before.
use Rattle.std.proofs.Common.{rules, ℕ, ◌<◌, List, nat_lt, count_by, subst, sym, ap, ◌∙◌, filter}
use Rattle.std.specs.Option.{is_none}
use Rattle.std.specs.List.Sorted.{IsNonDecreasingBy}
use Rattle.std.proofs.lemmas.List.Sorted.{IsPartitionPoint-from_clause, IsPartitionedBy-ltb}
use Rattle.std.proofs.lemmas.List.Kept.{AllPairs-filter}
use Rattle.ob_tree.specs.declared.survey.Seen.{Seen}
use Rattle.ob_tree.specs.Tree.{unnamed}
use Rattle.ob_tree.proofs.Lookups.{numbers_rise, count_parted}
use Rattle.ob_tree.proofs.names.Names.number_of.Goals as goal

pub returns : goal.returns
returns c =
    let objects = c.self.inside.objects.now in
    let is = c.deref.ensures.value ∙ c.self.invariant.1 in
    let rise = numbers_rise (λ (x : Seen). x.id) (filter (λ (x : Seen). is_none x.row) objects) (AllPairs-filter (λ (a b : Seen). a.id < b.id) (λ (x : Seen). is_none x.row) objects c.self.invariant.0) in
    let parted = IsPartitionPoint-from_clause (λ (x : ℕ). nat_lt x c.args.object) c.deref.result.now c.partition_point.result c.partition_point.ensures.partitioned
    (IsPartitionedBy-ltb (λ (x : ℕ). x) c.deref.result.now c.args.object (subst (λ (xs : List ℕ). IsNonDecreasingBy (λ x. x) xs) (sym is) rise)) (λ a r f called. search rules) in
    count_parted (λ (x : ℕ). nat_lt x c.args.object) c.deref.result.now c.partition_point.result c.partition_point.ensures.bound parted.0 parted.1
    ∙ ap (λ (xs : List ℕ). count_by (λ x. nat_lt x c.args.object) xs) (is ∙ ap unnamed c.self.view_is)
