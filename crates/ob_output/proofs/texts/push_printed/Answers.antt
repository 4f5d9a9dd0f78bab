-- A text of bytes that are all printed as themselves is printed as it is.
use Rattle.std.proofs.Common.{ap, sym, ◌∙◌, ◌++◌}
use Rattle.ob_output.proofs.Printed.{printed_as_it_is}
use Rattle.ob_output.proofs.texts.push_printed.Goals as goal

pub returns-then-prints_as_it_is-clause-items : goal.returns-then-prints_as_it_is-clause-items
returns-then-prints_as_it_is-clause-items c =
    c.push_text.ensures.items ∙ ap (λ z. c.args.block.now.items ++ z) (sym (printed_as_it_is c.args.text.now (c.prints_as_it_is.ensures c.if-prints_as_it_is.true)))
