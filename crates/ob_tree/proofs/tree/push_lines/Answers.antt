-- One line more, and no more lines.
use Rattle.std.proofs.Common.{◌+◌, ◌-◌, map, arith}
use Rattle.ob_tree.specs.Index.{named_by}
use Rattle.ob_tree.proofs.Writing.{lines_more, lines_end, lines_spent}
use Rattle.ob_tree.proofs.tree.push_lines.Goals as goal

pub returns-in_default : goal.returns-in_default
returns-in_default c =
    lines_end c.args.style c.args.names.now (map named_by c.args.entries.now) (c.args.count - c.loop-step.step) c.loop-step.items.items c.loop-step.out.items _ (omega (arith, c.in_default.ensures.cases.0, c.loop-step.items.ok)) c.loop-step.invariant

pub loop-step-preserved : goal.loop-step-preserved
loop-step-preserved c =
    lines_more c.args.style c.args.names.now (map named_by c.args.entries.now) (c.args.count - (c.loop-step.step + 1)) (c.args.count - c.loop-step.step) c.in-Some.item c.loop-step.items.items c.pop.new.self.items
    c.push_below.new.items.items c.loop-step.out.items c.push_line.new.out.items _ (omega (arith, c.loop-step-test.true)) c.in-Some.ensures.items c.in_ok-push_line.ensures c.in_ok-push_below.ensures c.loop-step.invariant

pub returns : goal.returns
returns c =
    lines_spent c.args.style c.args.names.now (map named_by c.args.entries.now) (c.args.count - c.loop-step.step) c.loop-step.items.items c.loop-step.out.items _ (omega (arith, c.loop-step-test.false)) c.loop-step.invariant
