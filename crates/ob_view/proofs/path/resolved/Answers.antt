-- The root, or a path that is walked from it.
use Rattle.std.proofs.Common.{◌∙◌, ◌==◌, ap, sym, subst, Some, length}
use Rattle.std.proofs.lemmas.Bool.{false≢true}
use Rattle.std.proofs.lemmas.Slice.Eq.{bytes_eq-Decides}
use Rattle.ob_model.specs.State.{root_id}
use Rattle.ob_view.specs.Viewed.{IsResolved}
use Rattle.ob_view.proofs.Walked.{resolved_root, resolved_walked}
use Rattle.ob_view.proofs.path.resolved.Goals as goal

pub returns-then-eq : goal.returns-then-eq
returns-then-eq c =
    let root = (bytes_eq-Decides c.args.path.now c.as_slice.result.now).0 (sym c.eq.ensures ∙ c.if-eq.true) ∙ c.as_slice.ensures in
    subst (λ path. IsResolved c.args.rows.now path c.args.fold (Some root_id)) (sym root) (resolved_root c.args.rows.now c.args.fold)

pub returns : goal.returns
returns c =
    resolved_walked c.args.rows.now c.args.path.now c.args.fold c.walked.result
    (λ none. false≢true (sym c.if-is_empty.false ∙ c.is_empty.ensures ∙ ap (λ path. length path == 0) none))
    (λ root. false≢true (sym c.if-eq.false ∙ c.eq.ensures ∙ (bytes_eq-Decides c.args.path.now c.as_slice.result.now).1 (root ∙ sym c.as_slice.ensures)))
    c.walked.ensures
