-- One more line is taken and answered, or the session ends.
use Rattle.std.proofs.Common.{refl, arith, rules}
use Rattle.ob_effects.specs.Kept.{space_of, variables_of}
use Rattle.ob_session.specs.Session.{IsConversationCut}
use Rattle.ob_session.proofs.Talks.{come_on, come_cut, come_long}
use Rattle.ob_session.proofs.session.converse.Goals as goal

pub loop-number-preserved : goal.loop-number-preserved
loop-number-preserved g c =
    let old = c.loop-number.invariant in (
      (
        c.loop-number.number,
        refl,
        come_on (g.R.Read.remaining c.args.reader.now) (g.R.Read.remaining c.loop-number.reader) (g.R.Read.remaining c.answer_next.new.reader)
            (variables_of c.args.session.now) (variables_of c.loop-number.session) (variables_of c.answer_next.new.session)
            (space_of c.args.session.now) (space_of c.loop-number.session) (space_of c.answer_next.new.session)
            (g.W.Write.contents c.args.writer.now) (g.W.Write.contents c.loop-number.writer) (g.W.Write.contents c.answer_next.new.writer)
            old.0.0 c.loop-number.number old.0.2 old.0.1 (search rules),
      ),
      (search rules),
      omega (arith, old.2, c.answer_next.ensures.capacity),
      c.answer_next.ensures.kept,
    )

pub returns-in_err-answer_next-clause-cut : goal.returns-in_err-answer_next-clause-cut
returns-in_err-answer_next-clause-cut g c =
    let old = c.loop-number.invariant in
    let begun = c.requires.first in
    let cut : IsConversationCut c.in_err-answer_next.field-0.0 (g.R.Read.remaining c.args.reader.now) (g.W.Write.contents c.args.writer.now) (g.W.Write.contents c.answer_next.new.writer) =
    come_cut (g.R.Read.remaining c.args.reader.now) (g.R.Read.remaining c.loop-number.reader)
    (variables_of c.args.session.now) (variables_of c.loop-number.session) (space_of c.args.session.now) (space_of c.loop-number.session)
    (g.W.Write.contents c.args.writer.now) (g.W.Write.contents c.loop-number.writer) old.0.0 old.0.2 begun.0 begun.1.0 begun.1.1 begun.1.2
    c.in_err-answer_next.field-0.0 c.loop-number.number (g.W.Write.contents c.answer_next.new.writer) old.0.1 c.in_err-answer_next.ensures.cut in
    search (rules, cut)

pub returns-clause-cut : goal.returns-clause-cut
returns-clause-cut g c =
    let old = c.loop-number.invariant in
    let begun = c.requires.first in
    come_long (g.R.Read.remaining c.args.reader.now) (g.R.Read.remaining c.loop-number.reader)
    (variables_of c.args.session.now) (variables_of c.loop-number.session) (space_of c.args.session.now) (space_of c.loop-number.session)
    (g.W.Write.contents c.args.writer.now) (g.W.Write.contents c.loop-number.writer) old.0.0 old.0.2 begun.0 begun.1.0 begun.1.1 begun.1.2
    (omega (arith, c.loop-number-test.false, c.loop-number.auto.number-end, old.0.1))
