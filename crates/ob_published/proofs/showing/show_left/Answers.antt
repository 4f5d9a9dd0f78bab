-- Wherever memory ran out, the steps asked for and the changes left lead to the same rows.
use Rattle.std.proofs.Common.{◌∙◌, ◌++◌, List, ap, drop, map, sym}
use Rattle.ob_published.specs.declared.shown.Op.{Op}
use Rattle.ob_published.specs.declared.shown.Op.TheVariants.{Change}
use Rattle.ob_published.proofs.Steps.{on_err, on_err_told, rows-asked, rows-reached, where_err, where_ok}
use Rattle.ob_published.proofs.showing.show_left.Goals as goal

pub returns-in_err-append_changes-clause-rows : goal.returns-in_err-append_changes-clause-rows
returns-in_err-append_changes-clause-rows g c =
    let old = c.args.writer.now in
    let new = c.append_changes.new.writer in
    on_err c.from_residual.result _
    (rows-asked old.desk.shown.value (drop old.behind old.log.items) c.args.left.now.items new.desk.shown.value (drop new.behind new.log.items) c.append_changes.new.left.items
    (ap (λ d. d.shown.value) c.append_changes.ensures.desk) c.append_changes.ensures.asked)

pub returns-then-is_err-clause-rows : goal.returns-then-is_err-clause-rows
returns-then-is_err-clause-rows g c =
    let old = c.args.writer.now in
    let mid = c.append_changes.new.writer in
    let new = c.append.new.self in
    let left = c.append_changes.new.left.items in
    where_err c.append.result _ _ _ (sym c.is_err.ensures.value ∙ c.if-is_err.true) c.append.ensures.pending
    (λ back told.
    rows-asked old.desk.shown.value (drop old.behind old.log.items) c.args.left.now.items new.desk.shown.value (drop new.behind new.log.items) left
    (ap (λ d. d.shown.value) c.append.ensures.desk ∙ ap (λ d. d.shown.value) c.append_changes.ensures.desk)
    (ap (λ (ops : List Op). ops ++ map Change left) told.1 ∙ c.append_changes.ensures.asked))

pub returns-clause-rows : goal.returns-clause-rows
returns-clause-rows g c =
    let old = c.args.writer.now in
    let mid = c.append_changes.new.writer in
    let more = c.append.new.self in
    let new = c.replace_with.new.dest in
    let left = c.append_changes.new.left.items in
    on_err_told c.replace_with.result _ _ _ c.replace_with.ensures
    (λ told.
    where_ok c.append.result _ _ _ (sym c.is_err.ensures.value ∙ c.if-is_err.false) c.append.ensures.pending
    (λ _ added.
    rows-reached c.args.reach left mid.desk.shown.value (drop mid.behind mid.log.items) new.desk.shown.value (drop new.behind new.log.items)
    (told.0 ∙ ap (λ d. d.shown.value) c.append.ensures.desk) (told.1 ∙ added)
    ∙ rows-asked old.desk.shown.value (drop old.behind old.log.items) c.args.left.now.items mid.desk.shown.value (drop mid.behind mid.log.items) left
    (ap (λ d. d.shown.value) c.append_changes.ensures.desk) c.append_changes.ensures.asked))
