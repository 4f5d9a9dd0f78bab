use Rattle.std.proofs.Common.{refl, arith}
use Rattle.ob_numbers.proofs.KindLemmas.{is_few, none_more}
use Rattle.ob_numbers.proofs.types.kind_named.Goals as goal

pub loop-kind-init : goal.loop-kind-init
loop-kind-init c = λ kind low same. absurd (omega (arith, low))

pub loop-kind-preserved : goal.loop-kind-preserved
loop-kind-preserved c = none_more _ _ _ c.in-Some.kind c.in-Some.ensures.found c.type_name.ensures c.if-eq.ensures c.loop-kind.invariant

pub returns-clause-none : goal.returns-clause-none
returns-clause-none c = λ kind same.
    let all = c.in_default.ensures.none.0 refl in
    let few = is_few kind in
    c.loop-kind.invariant kind (omega (arith, all, few)) same
