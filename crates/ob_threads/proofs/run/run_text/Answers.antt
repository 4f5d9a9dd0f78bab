-- What was written is an output of the script.
use Rattle.std.proofs.Common.{◌∷◌, ◌++◌, [], inr, map, sym, subst}
use Rattle.std.specs.Arc.{arc_value}
use Rattle.std.specs.Io.KnownBytes.{Appends}
use Rattle.ob_entries.specs.Lines.{journal_lines}
use Rattle.ob_standard.specs.Standard.{standard}
use Rattle.ob_threads.specs.Ended.{ending_of}
use Rattle.ob_threads.specs.Written.{IsCutOff, IsOutput}
use Rattle.ob_threads.proofs.Output.{output_of}
use Rattle.ob_threads.proofs.run.run_text.Goals as goal

pub returns-in-Ok-write_journal-clause-written : goal.returns-in-Ok-write_journal-clause-written
returns-in-Ok-write_journal-clause-written g c =
    let done = c.in-Ok-play.done in
    let seats = c.seats_of-seats.result in
    let sealed = map arc_value done.sealed.items in
    let text = journal_lines standard.type_name seats (sealed ++ done.last ∷ []) in (
      text,
      subst (λ e. IsOutput c.args.script.now e text) (sym c.ending_of.ensures)
          (output_of c.args.script.now c.in-Ok.parts seats sealed done.last done.ended c.in-Ok.ensures.lines c.in-Ok.ensures.numbers c.seats_of-seats.ensures c.in-Ok-play.ensures.finished),
      subst (λ ss. Appends (g.W.Write.contents c.args.writer.now) (g.W.Write.contents c.write_journal.new.writer) (journal_lines standard.type_name seats (map arc_value ss ++ done.last ∷ []))) c.as_slice.ensures.value
          c.in-Ok-write_journal.ensures.written,
    )

pub returns-in-Ok-play-clause-part : goal.returns-in-Ok-play-clause-part
returns-in-Ok-play-clause-part g c =
    let done = c.in-Ok-play.done in
    let seats = c.seats_of-seats.result in
    let sealed = map arc_value done.sealed.items in
    inr (
      journal_lines standard.type_name seats (sealed ++ done.last ∷ []),
      ending_of done.ended,
      output_of c.args.script.now c.in-Ok.parts seats sealed done.last done.ended c.in-Ok.ensures.lines c.in-Ok.ensures.numbers c.seats_of-seats.ensures c.in-Ok-play.ensures.finished,
      subst (λ ss. IsCutOff c.in-Err-write_journal.fault (g.W.Write.contents c.args.writer.now) (g.W.Write.contents c.write_journal.new.writer) (journal_lines standard.type_name seats (map arc_value ss ++ done.last ∷ [])))
          c.as_slice.ensures.value c.in-Err-write_journal.ensures.cut_off,
    )
