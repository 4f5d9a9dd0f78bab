-- A line whose outcome is `NoLine` has no form; and a fault of a write cut the answer to the line that was taken.
use Rattle.std.proofs.Common.{◌≡◌, true, false, rules}
use Rattle.ob_output.specs.declared.fault.ShellFault.TheVariants.{Write}
use Rattle.ob_session.specs.Session.{IsTurnCut, is_tree}
use Rattle.ob_effects.specs.Kept.{space_of, variables_of}
use Rattle.ob_session.proofs.Answered.{line_cut, tree_cut, unformed}
use Rattle.ob_session.proofs.session.answer_next.Goals as goal

pub write_answer-requires-clause-formed : goal.write_answer-requires-clause-formed
write_answer-requires-clause-formed g c = λ is.
    let done = c.perform_line-outcome.ensures.done in
    unformed done.0 c.as_slice-text.result.now (variables_of c.args.session.now) (variables_of c.perform_line-outcome.new.session) (space_of c.args.session.now)
    (space_of c.perform_line-outcome.new.session) c.perform_line-outcome.result done.1 done.2 is

pub returns-in_err-write_tree-clause-cut : goal.returns-in_err-write_tree-clause-cut
returns-in_err-write_tree-clause-cut g c =
    let there : c.in_ok-take_line.field-0 ≡ true = search rules in
    let tree : is_tree c.as_slice-text.result.now ≡ true = search rules in
    let cut : IsTurnCut (Write c.in_err-write_tree.field-0.0) c.args.number (g.R.Read.remaining c.args.reader.now) (variables_of c.args.session.now) (space_of c.args.session.now)
    (g.W.Write.contents c.args.writer.now) (g.W.Write.contents c.write_tree.new.writer) =
    tree_cut c.in_err-write_tree.field-0.0 c.args.number c.in_ok-take_line.field-0 (g.R.Read.remaining c.args.reader.now) (g.R.Read.remaining c.take_line.new.reader)
    c.take_line.new.line.items c.as_slice-text.result.now (variables_of c.args.session.now) (space_of c.args.session.now) (g.W.Write.contents c.args.writer.now)
    (g.W.Write.contents c.write_tree.new.writer) c.in_ok-take_line.ensures.taken there c.as_slice-text.ensures.value tree c.in_err-write_tree.ensures.front in
    search (rules, cut)

pub returns-in_err-write_answer-clause-cut : goal.returns-in_err-write_answer-clause-cut
returns-in_err-write_answer-clause-cut g c =
    let there : c.in_ok-take_line.field-0 ≡ true = search rules in
    let other : is_tree c.as_slice-text.result.now ≡ false = search rules in
    let cut : IsTurnCut (Write c.in_err-write_answer.field-0.0) c.args.number (g.R.Read.remaining c.args.reader.now) (variables_of c.args.session.now) (space_of c.args.session.now)
    (g.W.Write.contents c.args.writer.now) (g.W.Write.contents c.write_answer.new.writer) =
    line_cut c.in_err-write_answer.field-0.0 c.args.number c.in_ok-take_line.field-0 (g.R.Read.remaining c.args.reader.now) (g.R.Read.remaining c.take_line.new.reader)
    c.take_line.new.line.items c.as_slice-text.result.now (variables_of c.args.session.now) (variables_of c.perform_line-outcome.new.session) (space_of c.args.session.now)
    (space_of c.perform_line-outcome.new.session) (g.W.Write.contents c.args.writer.now) (g.W.Write.contents c.write_answer.new.writer) c.perform_line-outcome.result
    c.in_ok-take_line.ensures.taken there c.as_slice-text.ensures.value other c.perform_line-outcome.ensures.done c.in_err-write_answer.ensures.front in
    search (rules, cut)
