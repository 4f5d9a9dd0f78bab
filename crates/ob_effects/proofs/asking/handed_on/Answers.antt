-- A variable is kept where the child holds its value.
use Rattle.std.proofs.Common.{inl, inr, rules}
use Rattle.ob_requests.specs.Tables.{value_in}
use Rattle.ob_effects.proofs.Answered.{kept_variables}
use Rattle.ob_effects.proofs.asking.handed_on.Goals as goal

pub returns-clause-values : goal.returns-clause-values
returns-clause-values c =
    kept_variables c.args.core.now c.args.child (value_in c.args.own) (value_in c.keep.new.table)
    (λ variable. elim (c.keep.ensures.kept variable) [
      | inl kept ↦ inl (kept.0, (let says = kept.1 in search rules))
      | inr rest ↦ elim rest [ inl dropped ↦ inr (inl (dropped.0, (let says = dropped.1 in search rules))) | inr unset ↦ inr (inr unset) ]
    ])
