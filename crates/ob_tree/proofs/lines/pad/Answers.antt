-- One space more, and as many as are missing.
use Rattle.std.proofs.Common.{◌≡◌, ◌+◌, ◌-◌, ◌++◌, replicate, arith, ap, ◌∙◌}
use Rattle.ob_tree.specs.Tree.{columns}
use Rattle.ob_tree.proofs.Writing.{padded_more}
use Rattle.ob_tree.proofs.lines.pad.Goals as goal

pub loop-space-preserved : goal.loop-space-preserved
loop-space-preserved c =
    padded_more c.args.text.now.items c.loop-space.text.items c.extend_from_slice.new.self.items c.loop-space.space (c.loop-space.space + 1)
    c.loop-space.invariant c.in_ok-extend_from_slice.ensures.items (omega arith)

pub returns : goal.returns
returns c =
    let counted : c.columns_of.result ≡ columns c.args.text.now.items = c.columns_of.ensures ∙ ap columns c.as_slice.ensures.value in
    let all : c.loop-space.space ≡ 40 - columns c.args.text.now.items = omega (arith, counted, c.saturating_sub-missing.ensures) in
    c.loop-space.invariant ∙ ap (λ n. c.args.text.now.items ++ replicate n 0x20) all
