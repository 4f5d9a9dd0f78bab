-- A search that gave nothing shows the spelling free.
use Rattle.std.proofs.Common.{◌≢◌, ◌∙◌, ap, sym, subst, not, All, Option, List, []}
use Rattle.std.specs.Option.{option_copied, unwrap_or}
use Rattle.ob_dirs.specs.declared.entry.DirEntry.{DirEntry}
use Rattle.ob_dirs.proofs.Laws.{free_where_not_found}
use Rattle.ob_lookup_tests.proofs.space.is_free.Goals as goal

pub returns-clause-free : goal.returns-clause-free
returns-clause-free g c = λ is_true.
    subst (λ (o : Option (List DirEntry)). All (λ e. e.name ≢ c.args.name.now) (unwrap_or o [])) (sym (ap option_copied c.in-Some.is) ∙ c.dir_of.ensures)
    (free_where_not_found (λ e. (e.stamp, e.object)) c.in-Some.dir.now c.args.name.now c.find.result c.find.ensures (c.is_none.ensures ∙ ap not is_true))
