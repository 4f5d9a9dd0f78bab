use Rattle.std.proofs.Common.{◌≡◌, ◌-◌, ◌<◌}
use Rattle.ob_host.specs.Kinds.{index_of, name_of, kind_count}
use Rattle.ob_host.specs.declared.kind.Kind.{Kind}
use Rattle.ob_numbers.proofs.types.kind_named.Given as goal

-- no kind so far has the name
abbrev pub invariant-loop-kind : goal.invariant-loop-kind
invariant-loop-kind l = (kind : Kind) → index_of kind < l.index → l.name ≡ name_of kind → ⊥

abbrev pub decreases-loop-kind : goal.decreases-loop-kind
decreases-loop-kind l = kind_count - l.index
