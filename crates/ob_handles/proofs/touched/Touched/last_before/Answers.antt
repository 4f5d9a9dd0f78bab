-- The objects below the bound come first, and the last of them is the greatest.
use Rattle.std.proofs.Common.{◌∙◌, ℕ, None, Some, List, ltb, length, get_or, ap, sym, subst, rules, ltb-true}
use Rattle.std.proofs.lemmas.List.Sorted.{IsPartitionPoint-from_clause, IsPartitionedBy-ltb}
use Rattle.ob_handles.specs.Counts.{Numbers, AreListed, IsLastListed}
use Rattle.ob_handles.proofs.Listed.{none_before, one_before}
use Rattle.ob_handles.proofs.touched.Touched.last_before.Goals as goal

pub returns-in_err-checked_sub : goal.returns-in_err-checked_sub
returns-in_err-checked_sub c =
    let ids : List ℕ = c.deref.result.now in
    let listed : AreListed c.self.inside.numbers.entries ids = subst (λ (l : List ℕ). AreListed c.self.inside.numbers.entries l) (sym c.deref.ensures.value) c.self.invariant in
    let all : AreListed c.args.self.now ids = subst (λ (n : Numbers). AreListed n ids) c.self.view_is listed in
    let point =
    IsPartitionPoint-from_clause (λ y. ltb y c.bound.inside.0) ids c.partition_point-before.result c.partition_point-before.ensures.partitioned
    (IsPartitionedBy-ltb (λ y. y) ids c.bound.inside.0 all.0) (λ a r f called. search rules)
    in
    subst (IsLastListed c.args.bound c.args.self.now) (sym c.from_residual.ensures)
    (subst (λ b. IsLastListed b c.args.self.now None) c.bound.view_is
    (none_before c.args.self.now ids all c.bound.inside.0 c.partition_point-before.result point (search rules)))

pub returns : goal.returns
returns c =
    let ids : List ℕ = c.deref.result.now in
    let listed : AreListed c.self.inside.numbers.entries ids = subst (λ (l : List ℕ). AreListed c.self.inside.numbers.entries l) (sym c.deref.ensures.value) c.self.invariant in
    let all : AreListed c.args.self.now ids = subst (λ (n : Numbers). AreListed n ids) c.self.view_is listed in
    let point =
    IsPartitionPoint-from_clause (λ y. ltb y c.bound.inside.0) ids c.partition_point-before.result c.partition_point-before.ensures.partitioned
    (IsPartitionedBy-ltb (λ y. y) ids c.bound.inside.0 all.0) (λ a r f called. search rules)
    in
    subst (λ b. IsLastListed b c.args.self.now (Some c.in_ok-last.last.now)) c.bound.view_is
    (one_before c.args.self.now ids all c.bound.inside.0 c.partition_point-before.result point c.in_ok-checked_sub.field-0 c.in_ok-last.last.now (search rules)
    (ltb-true c.in_ok-checked_sub.field-0 (length ids) (ap (λ (l : List ℕ). ltb c.in_ok-checked_sub.field-0 (length l)) (c.deref.ensures.value ∙ sym c.deref-2.ensures.value) ∙ sym c.in_ok-last.ensures.lookup.0)) (ap (λ (l : List ℕ). get_or l c.in_ok-checked_sub.field-0 c.in_ok-last.last.now) (c.deref.ensures.value ∙ sym c.deref-2.ensures.value) ∙ sym c.in_ok-last.ensures.lookup.1))
