use Rattle.std.proofs.Common.{arith}
use Rattle.ob_c.proofs.RowsLemmas.{name_put}
use Rattle.ob_c.proofs.rows.put_name.Goals as goal

pub returns-clause-bytes : goal.returns-clause-bytes
returns-clause-bytes c = name_put c.args.buffer.now c.copy_from_slice.new.self c.args.name.now c.args.place _ c.copy_from_slice.ensures.after (omega arith) c.requires
