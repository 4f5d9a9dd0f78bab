-- A segment more was written, or was cut off.
use Rattle.std.proofs.Common.{[], ◌∷◌, ◌++◌, ◌<◌, map, length, suc, take, drop, subst, arith}
use Rattle.std.proofs.lemmas.List.{length-map}
use Rattle.std.proofs.lemmas.List.{take_all}
use Rattle.std.specs.Arc.{arc_value}
use Rattle.std.specs.Io.KnownBytes.{Appends}
use Rattle.std.proofs.KnownBytes.{Appends-trans}
use Rattle.ob_entries.specs.Lines.{journal_lines, segment_lines}
use Rattle.ob_entries.specs.Segments.{Segment}
use Rattle.ob_standard.specs.Standard.{StandardKind}
use Rattle.ob_threads.specs.Written.{IsCutOff}
use Rattle.ob_threads.proofs.CutOff.{type_name, cut_behind, journal_more, journal_open, journal_split, last_cut, last_written, mapped_at}
use Rattle.ob_threads.proofs.journal.write_journal.Goals as goal

pub returns-in-Err-clause-cut_off : goal.returns-in-Err-clause-cut_off
returns-in-Err-clause-cut_off g c =
    let ss = map arc_value c.args.sealed.now in
    let i = c.loop-segment.segment-index in
    let s = arc_value c.segment-item.result in
    let inside : i < length ss = omega (arith, c.loop-segment-test.true, length-map c.args.sealed.now arc_value) in
    cut_behind c.in-Err.fault (g.W.Write.contents c.args.writer.now) (g.W.Write.contents c.loop-segment.writer) (g.W.Write.contents c.write_segment.new.writer)
    (journal_lines type_name c.args.seats (take i ss)) (segment_lines type_name c.args.seats s) (journal_lines type_name c.args.seats (drop (suc i) ss) ++ journal_lines type_name c.args.seats (c.args.last.now ∷ []))
    (journal_lines type_name c.args.seats (ss ++ c.args.last.now ∷ []))
    (journal_split c.args.seats ss c.args.last.now i s inside (mapped_at arc_value c.args.sealed.now i c.segment-item.result c.loop-segment-test.true c.segment-item.is)) c.loop-segment.invariant
    (subst (λ (x : Segment StandardKind). IsCutOff c.in-Err.fault (g.W.Write.contents c.loop-segment.writer) (g.W.Write.contents c.write_segment.new.writer) (segment_lines type_name c.args.seats x)) c.deref.ensures c.in-Err.ensures.cut_off)

pub loop-segment-preserved : goal.loop-segment-preserved
loop-segment-preserved g c =
    let ss = map arc_value c.args.sealed.now in
    let i = c.loop-segment.segment-index in
    let s = arc_value c.segment-item.result in
    let inside : i < length ss = omega (arith, c.loop-segment-test.true, length-map c.args.sealed.now arc_value) in
    subst (Appends (g.W.Write.contents c.args.writer.now) (g.W.Write.contents c.write_segment.new.writer))
    (journal_more c.args.seats ss c.args.last.now i s inside (mapped_at arc_value c.args.sealed.now i c.segment-item.result c.loop-segment-test.true c.segment-item.is))
    (Appends-trans _ (g.W.Write.contents c.loop-segment.writer) _ (journal_lines type_name c.args.seats (take i ss)) (segment_lines type_name c.args.seats s) c.loop-segment.invariant
    (subst (λ (x : Segment StandardKind). Appends (g.W.Write.contents c.loop-segment.writer) (g.W.Write.contents c.write_segment.new.writer) (segment_lines type_name c.args.seats x)) c.deref.ensures c.in_default.ensures.written))

pub returns-clause-written : goal.returns-clause-written
returns-clause-written g c =
    let ss = map arc_value c.args.sealed.now in
    let all = take_all c.loop-segment.segment-index ss (omega (arith, c.loop-segment-test.false, length-map c.args.sealed.now arc_value)) in
    last_written (g.W.Write.contents c.args.writer.now) (g.W.Write.contents c.loop-segment.writer) (g.W.Write.contents c.write_segment-2.new.writer) (journal_lines type_name c.args.seats ss)
    (segment_lines type_name c.args.seats c.args.last.now) (journal_lines type_name c.args.seats (ss ++ c.args.last.now ∷ [])) (journal_open c.args.seats ss c.args.last.now)
    (subst (λ l. Appends (g.W.Write.contents c.args.writer.now) (g.W.Write.contents c.loop-segment.writer) (journal_lines type_name c.args.seats l)) all c.loop-segment.invariant)
    c.write_segment-2.result c.write_segment-2.ensures.written

pub returns-clause-cut_off : goal.returns-clause-cut_off
returns-clause-cut_off g c =
    let ss = map arc_value c.args.sealed.now in
    let all = take_all c.loop-segment.segment-index ss (omega (arith, c.loop-segment-test.false, length-map c.args.sealed.now arc_value)) in
    last_cut (g.W.Write.contents c.args.writer.now) (g.W.Write.contents c.loop-segment.writer) (g.W.Write.contents c.write_segment-2.new.writer) (journal_lines type_name c.args.seats ss)
    (segment_lines type_name c.args.seats c.args.last.now) (journal_lines type_name c.args.seats (ss ++ c.args.last.now ∷ [])) (journal_open c.args.seats ss c.args.last.now)
    (subst (λ l. Appends (g.W.Write.contents c.args.writer.now) (g.W.Write.contents c.loop-segment.writer) (journal_lines type_name c.args.seats l)) all c.loop-segment.invariant)
    c.write_segment-2.result c.write_segment-2.ensures.cut_off
