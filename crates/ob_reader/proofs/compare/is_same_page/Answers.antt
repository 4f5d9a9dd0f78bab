-- Pages are compared entry by entry.
use Rattle.std.proofs.Common.{sym, ◌∙◌}
use Rattle.std.specs.Cmp.Lexicographic.{pointwise_decides}
use Rattle.ob_reader.proofs.compare.is_same_page.Goals as goal

pub returns : goal.returns
returns c =
    let decides = pointwise_decides c.listed_are_one.ensures c.args.a.now c.args.b.now in
    (λ same. decides.0 (sym c.eq.ensures ∙ same), λ e. c.eq.ensures ∙ decides.1 e)
