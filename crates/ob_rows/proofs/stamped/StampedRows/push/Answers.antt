-- The row comes under a new stamp, and so is the last.
use Rattle.std.proofs.Common.{◌∙◌, ◌++◌, ◌∷◌, [], ◌<◌, All, List, ap, nat_eq, subst, sym}
use Rattle.ob_model.specs.declared.state.Row.{Row}
use Rattle.indexmap.proofs.CallerLemmas.{insert_entry-new}
use Rattle.ob_rows.specs.Stamped.{rows_of}
use Rattle.ob_rows.proofs.ByStamp.{newest_is_new, rows-push}
use Rattle.ob_rows.proofs.stamped.StampedRows.push.Goals as goal

pub returns-in-Ok-clause-last : goal.returns-in-Ok-clause-last
returns-in-Ok-clause-last c =
    let entries = c.self.inside.map.entries in
    let newest = subst (λ (rows : List Row). All (λ x. x.stamp < c.args.row.stamp) rows) (sym c.self.view_is) c.requires.newest in
    ap rows_of (c.in-Ok.ensures.entries ∙ insert_entry-new nat_eq c.self.inside.map c.args.row.stamp c.args.row (newest_is_new entries c.args.row c.self.invariant newest))
    ∙ rows-push entries c.args.row.stamp c.args.row newest ∙ ap (λ rows. rows ++ c.args.row ∷ []) c.self.view_is
