-- The step is made with the core's own choice, and then with the one that the line says, if that may be.
use Rattle.std.proofs.Common.{sym, subst, refl}
use Rattle.ob_model.specs.Choice.{answer_under}
use Rattle.ob_reader.specs.Reading.{said_of}
use Rattle.ob_standard_core.specs.Machine.{Space}
use Rattle.ob_model.specs.Step.{Step}
use Rattle.ob_standard.specs.Standard.{standard}
use Rattle.ob_journal.specs.Played.{IsKeptBeside}
use Rattle.ob_journal.proofs.Choosing.{not_said, newest_is_given, still_free, step_revalued, no_step_replies}
use Rattle.ob_journal.proofs.replay.make_step.Goals as goal

pub returns-in_default-taken-clause-refused : goal.returns-in_default-taken-clause-refused
returns-in_default-taken-clause-refused c =
    let unsaid = not_said c.is_said.result c.args.line.now.reply (said_of c.in-Ok.answer) c.is_said.ensures c.if-is_said.false in (
      refl,
      no_step_replies c.args.core c.repeat.new.core c.args.line.now c.in-Ok.answer c.in-Ok.ensures.step unsaid c.choice_of-choice.result c.choice_of-choice.ensures.free c.state_is_sound.ensures
          c.choice_of-choice.ensures.none c.in_default-taken.ensures.none,
    )

pub revalue-requires-clause-given : goal.revalue-requires-clause-given
revalue-requires-clause-given c =
    let unsaid = not_said c.is_said.result c.args.line.now.reply (said_of c.in-Ok.answer) c.is_said.ensures c.if-is_said.false in
    newest_is_given c.args.core c.repeat.new.core c.args.line.now c.in-Ok.answer c.in-Ok.ensures.step unsaid c.choice_of-choice.result c.choice_of-choice.ensures.free c.state_is_reached.ensures c.in-Some.choice
    c.in-Some.chosen
    c.in-Some.ensures.taken

pub revalue-requires-clause-free : goal.revalue-requires-clause-free
revalue-requires-clause-free c =
    let unsaid = not_said c.is_said.result c.args.line.now.reply (said_of c.in-Ok.answer) c.is_said.ensures c.if-is_said.false in
    still_free c.args.core c.repeat.new.core c.args.line.now c.in-Ok.answer c.in-Ok.ensures.step unsaid c.choice_of-choice.result c.choice_of-choice.ensures.free c.in-Some.choice c.in-Some.chosen
    c.in-Some.ensures.taken

pub returns-in-Ok-revalue-clause-made : goal.returns-in-Ok-revalue-clause-made
returns-in-Ok-revalue-clause-made c =
    let unsaid = not_said c.is_said.result c.args.line.now.reply (said_of c.in-Ok.answer) c.is_said.ensures c.if-is_said.false in
    let one = c.in-Some.choice in
    let made = step_revalued c.args.core c.repeat.new.core c.args.line.now c.in-Ok.answer c.in-Ok.ensures.step unsaid c.choice_of-choice.result c.choice_of-choice.ensures.free one c.in-Some.chosen c.in-Some.ensures.taken in (
      answer_under one.value c.in-Ok.answer,
      subst (λ (x : Space). Step standard c.args.core c.args.line.now.step (answer_under one.value c.in-Ok.answer) x) (sym c.in-Ok-revalue.ensures) made,
      c.in-Some.ensures.taken.said,
      subst (λ (x : Space). IsKeptBeside x c.repeat.new.self) (sym c.in-Ok-revalue.ensures) (record { awaited = c.in-Ok.ensures.awaited; all = c.in-Ok.ensures.all }),
    )
