-- What is found under the component's hash is the first row that matches, which is the one of least stamp.
use Rattle.std.proofs.Common.{◌∙◌, ap, rules, subst}
use Rattle.ob_rows.specs.Hashes.{row_hash}
use Rattle.ob_rows.specs.Index.{first_named, row_at, stamps_under}
use Rattle.ob_rows.specs.Rows.{AreByStamp}
use Rattle.ob_rows.proofs.Found.{first_named-hashed, found_is_first}
use Rattle.ob_rows.proofs.Rising.{each_is_found}
use Rattle.ob_rows.proofs.table.RowTable.find.Goals as goal

pub returns : goal.returns
returns c =
    let rows = c.self.inside.rows in
    let directory = c.args.directory in
    let component = c.args.component.now in
    let rising = subst AreByStamp c.self.view_is c.self.invariant.rising in
    let stamps = c.stamps_under-stamps.ensures ∙ ap (stamps_under c.self.inside.names) c.row_hash.ensures ∙ c.self.invariant.index (row_hash directory component) in
    let named = c.first_named-named.ensures ∙ ap (first_named (row_at rows) directory component c.args.fold) stamps
    ∙ first_named-hashed (row_at rows) directory component c.args.fold rows (each_is_found rows c.self.invariant.rising) in
    rw (found_is_first c.args.self.now directory component c.args.fold rising) (search (rules, named))
