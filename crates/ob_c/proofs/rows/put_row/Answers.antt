use Rattle.ob_c.proofs.RowsLemmas.{row_put}
use Rattle.ob_c.proofs.rows.put_row.Goals as goal

pub returns : goal.returns
returns c = row_put c.args.rows.now c.args.place c.args.row c.requires
