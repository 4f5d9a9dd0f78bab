-- The row of a word is that of the verb which it names.
use Rattle.std.proofs.lemmas.Option.{IfSome_then}
use Rattle.ob_lines.proofs.VerbRows.{no_row, row_is_found}
use Rattle.ob_lines.proofs.verb.row_of.Goals as goal

pub returns-clause-found : goal.returns-clause-found
returns-clause-found c = IfSome_then c.row_in.result (row_is_found c.verb_rows.result.now c.args.word.now c.row_in.result c.verb_rows.ensures c.row_in.ensures) (λ row is. is.0)

pub returns-clause-sorts : goal.returns-clause-sorts
returns-clause-sorts c = IfSome_then c.row_in.result (row_is_found c.verb_rows.result.now c.args.word.now c.row_in.result c.verb_rows.ensures c.row_in.ensures) (λ row is. is.1)

pub returns-clause-few : goal.returns-clause-few
returns-clause-few c = IfSome_then c.row_in.result (row_is_found c.verb_rows.result.now c.args.word.now c.row_in.result c.verb_rows.ensures c.row_in.ensures) (λ row is. is.2)

pub returns-clause-none : goal.returns-clause-none
returns-clause-none c = no_row c.verb_rows.result.now c.args.word.now c.row_in.result c.verb_rows.ensures c.row_in.ensures
