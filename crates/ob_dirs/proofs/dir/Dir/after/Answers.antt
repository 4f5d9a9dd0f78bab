-- The entries of a page are those that its source reports.
use Rattle.std.proofs.Common.{◌∙◌, List, ap, map, sym, refl}
use Rattle.ob_dirs.specs.declared.entry.DirEntry.{DirEntry}
use Rattle.ob_dirs.specs.Page.{fit_of, shown_entry}
use Rattle.ob_dirs.proofs.Pages.{is_page}
use Rattle.ob_dirs.proofs.dir.Dir.after.Goals as goal

pub returns-clause-page : goal.returns-clause-page
returns-clause-page g c type_name tells =
    let fit = c.fitting-fit.ensures.fit type_name tells
    ∙ ap (λ (es : List DirEntry). fit_of (map (shown_entry type_name) es) 0 c.args.context c.args.room c.args.single) (c.behind.ensures.entries ∙ sym c.behind-2.ensures.entries) in
    is_page type_name c.args.self.now c.behind-2.result c.args.context c.args.room c.args.single c.fitting-fit.result _
    c.behind-2.ensures.entries fit c.page_status.ensures c.new.ensures refl
