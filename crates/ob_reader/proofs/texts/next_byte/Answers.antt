-- The first byte stands for itself, or is no form.
use Rattle.std.proofs.Common.{◌∙◌, sym, ap, ne_eqb}
use Rattle.ob_reader.specs.Reading.{unescaped}
use Rattle.ob_reader.proofs.Unescaped.{itself_first, other_first}
use Rattle.ob_reader.proofs.texts.next_byte.Goals as goal

pub returns-then-stands_for_itself-clause-found : goal.returns-then-stands_for_itself-clause-found
returns-then-stands_for_itself-clause-found c =
    ap unescaped c.in_ok-first.ensures.cases.0 ∙ itself_first c.in_ok-first.first.now c.in_ok-first.rest.now (sym c.stands_for_itself.ensures ∙ c.if-stands_for_itself.true)

pub returns-else-stands_for_itself-clause-none : goal.returns-else-stands_for_itself-clause-none
returns-else-stands_for_itself-clause-none c = λ some.
    ap unescaped c.in_ok-first.ensures.cases.0
    ∙ other_first c.in_ok-first.first.now c.in_ok-first.rest.now (sym c.stands_for_itself.ensures ∙ c.if-stands_for_itself.false) (ne_eqb c.in_ok-first.first.now 37 c.if-first-eq37.false)
