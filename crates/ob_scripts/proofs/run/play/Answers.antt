-- Each line's outcome is after what was run and written before it.
use Rattle.std.proofs.Common.{◌≡◌, ℕ, List, ◌∷◌, Option, sym, ◌∙◌, arith}
use Rattle.ob_lines.specs.declared.form.Form.{Form}
use Rattle.ob_lines.specs.Lines.{lines_of}
use Rattle.ob_lines.specs.Script.{BeginsWithLine, HasForm}
use Rattle.ob_effects.specs.Kept.{variables_of, space_of}
use Rattle.ob_scripts.proofs.Behind.{stands_first, stands_more, stands_end, stands_part, stands_last}
use Rattle.ob_scripts.proofs.run.play.Goals as goal

-- the script begins with a line of this form
begins : (rest line behind : List ℕ) (form : Option (Form (List ℕ))) → lines_of rest ≡ line ∷ lines_of behind → HasForm line form → BeginsWithLine rest form behind
begins rest line behind form found has = (line, found, has)

pub loop-line-init : goal.loop-line-init
loop-line-init g c = (
  stands_first (g.W.Write.contents c.args.writer.now) c.args.block.now.items c.args.script.now c.args.session.now c.requires.empty c.requires.first,
  omega arith,
  c.requires.capacity,
  c.requires.kept,
)

pub overflow_add-number : goal.overflow_add-number
overflow_add-number g c = omega (arith, c.loop-line.invariant.1, c.in-Some.ensures.shorter, c.requires.script)

pub returns-in-Ok-Some-clause-played : goal.returns-in-Ok-Some-clause-played
returns-in-Ok-Some-clause-played g c =
    stands_end (g.W.Write.contents c.args.writer.now) (g.W.Write.contents c.loop-line.writer) (g.W.Write.contents c.show.new.writer)
    c.loop-line.block.items c.show.new.block.items c.args.script.now c.loop-line.rest.now c.in-Some.behind.now c.perform_line-outcome.ensures.done.0 c.loop-line.number
    (variables_of c.loop-line.session) (variables_of c.perform_line-outcome.new.session) (space_of c.loop-line.session) (space_of c.perform_line-outcome.new.session) c.perform_line-outcome.result c.in-Ok-Some.ending
    c.loop-line.invariant.0 (begins c.loop-line.rest.now c.in-Some.line.now c.in-Some.behind.now c.perform_line-outcome.ensures.done.0 c.in-Some.ensures.found c.perform_line-outcome.ensures.done.1) c.perform_line-outcome.ensures.done.2 (sym c.in-Ok-Some.field-0-is ∙ c.in-Ok-Some.ensures.ending) c.in-Ok-Some.ensures.ok

pub returns-in-Err-clause-part : goal.returns-in-Err-clause-part
returns-in-Err-clause-part g c =
    stands_part (g.W.Write.contents c.args.writer.now) (g.W.Write.contents c.loop-line.writer) (g.W.Write.contents c.show.new.writer)
    c.loop-line.block.items c.args.script.now c.loop-line.rest.now c.in-Some.behind.now c.perform_line-outcome.ensures.done.0 c.loop-line.number
    (variables_of c.loop-line.session) (variables_of c.perform_line-outcome.new.session) (space_of c.loop-line.session) (space_of c.perform_line-outcome.new.session) c.perform_line-outcome.result
    c.loop-line.invariant.0 (begins c.loop-line.rest.now c.in-Some.line.now c.in-Some.behind.now c.perform_line-outcome.ensures.done.0 c.in-Some.ensures.found c.perform_line-outcome.ensures.done.1) c.perform_line-outcome.ensures.done.2 c.in-Err.ensures.front

pub loop-line-preserved : goal.loop-line-preserved
loop-line-preserved g c = (
  stands_more (g.W.Write.contents c.args.writer.now) (g.W.Write.contents c.loop-line.writer) (g.W.Write.contents c.show.new.writer)
      c.loop-line.block.items c.show.new.block.items c.args.script.now c.loop-line.rest.now c.in-Some.behind.now c.perform_line-outcome.ensures.done.0 c.loop-line.number
      (variables_of c.loop-line.session) (variables_of c.perform_line-outcome.new.session) (space_of c.loop-line.session) (space_of c.perform_line-outcome.new.session) c.perform_line-outcome.result
      c.loop-line.invariant.0 (begins c.loop-line.rest.now c.in-Some.line.now c.in-Some.behind.now c.perform_line-outcome.ensures.done.0 c.in-Some.ensures.found c.perform_line-outcome.ensures.done.1) c.perform_line-outcome.ensures.done.2 (sym c.in-Ok-None.field-0-is ∙ c.in-Ok-None.ensures.ending) c.in-Ok-None.ensures.ok,
  omega (arith, c.loop-line.invariant.1, c.in-Some.ensures.shorter),
  omega (arith, c.loop-line.invariant.2, c.show.ensures.capacity),
  c.perform_line-outcome.ensures.kept,
)

pub returns-clause-played : goal.returns-clause-played
returns-clause-played g c =
    stands_last (g.W.Write.contents c.args.writer.now) (g.W.Write.contents c.loop-line.writer) c.loop-line.block.items c.args.script.now c.loop-line.rest.now c.loop-line.number
    (variables_of c.loop-line.session) (space_of c.loop-line.session) c.loop-line.invariant.0 c.in_default.ensures.none
