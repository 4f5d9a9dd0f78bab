-- One component further.
use Rattle.std.proofs.Common.{◌∙◌, sym, subst, None, Some}
use Rattle.ob_model.specs.State.{root_id}
use Rattle.ob_view.specs.Viewed.{IsWalked}
use Rattle.ob_view.proofs.Walked.{in_parts, walked_empty, walked_missed, walked_none, walked_on, walked_unbegun}
use Rattle.ob_view.proofs.path.walked.Goals as goal

pub returns-then-byte-ne-SEPARATOR : goal.returns-then-byte-ne-SEPARATOR
returns-then-byte-ne-SEPARATOR c =
    c.loop-byte.invariant None (walked_unbegun c.args.rows.now c.loop-byte.directory c.loop-byte.left.now c.in-Some.byte.now c.in-Some.text.now c.args.fold c.in-Some.ensures.cases.0 c.if-byte-ne-SEPARATOR.true)

pub returns-in_default-first : goal.returns-in_default-first
returns-in_default-first c =
    c.loop-byte.invariant None (walked_empty c.args.rows.now c.loop-byte.directory c.loop-byte.left.now c.in-Some.byte.now c.in-Some.text.now c.args.fold c.in-Some.ensures.cases.0 c.if-byte-ne-SEPARATOR.false
    (c.in_default-first.ensures.no_component.0 tt))

pub returns-in_err-directory : goal.returns-in_err-directory
returns-in_err-directory c =
    subst (λ object. IsWalked c.args.rows.now root_id c.args.path.now c.args.fold object) (sym c.from_residual.ensures)
    (c.loop-byte.invariant None (walked_missed c.args.rows.now c.loop-byte.directory c.loop-byte.left.now c.in-One.name.now c.in-One.rest.now c.args.fold
    (in_parts c.loop-byte.left.now c.in-Some.byte.now c.in-Some.text.now c.in-One.name.now c.in-One.rest.now c.in-Some.ensures.cases.0 c.if-byte-ne-SEPARATOR.false c.in-One.ensures.whole)
    c.in-One.ensures.component c.in-One.ensures.rest (sym c.named.ensures ∙ c.in_err-directory.was)))

pub loop-byte-preserved : goal.loop-byte-preserved
loop-byte-preserved c = λ object walked.
    c.loop-byte.invariant object (walked_on c.args.rows.now c.loop-byte.directory c.in_ok-directory.directory c.loop-byte.left.now c.in-One.name.now c.in-One.rest.now c.args.fold object
    (in_parts c.loop-byte.left.now c.in-Some.byte.now c.in-Some.text.now c.in-One.name.now c.in-One.rest.now c.in-Some.ensures.cases.0 c.if-byte-ne-SEPARATOR.false c.in-One.ensures.whole)
    c.in-One.ensures.component c.in-One.ensures.rest (sym c.named.ensures ∙ c.in_ok-directory.was) walked)

pub returns : goal.returns
returns c = c.loop-byte.invariant (Some c.loop-byte.directory) (walked_none c.args.rows.now c.loop-byte.directory c.loop-byte.left.now c.args.fold c.in_default.ensures.cases)
