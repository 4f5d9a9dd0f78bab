-- A line more was written, or was not.
use Rattle.std.proofs.Common.{◌≡◌, ◌∙◌, [], ◌++◌, List, ◌<◌, ◌≤◌, length, get_or, suc, take, drop, ap, refl, subst}
use Rattle.std.specs.Io.KnownBytes.{Appends}
use Rattle.std.proofs.KnownBytes.{Appends-nil, Appends-trans}
use Rattle.ob_entries.specs.Lines.{entry_line, entry_lines, header_line, segment_lines}
use Rattle.ob_entries.specs.Segments.{Segment}
use Rattle.ob_model.specs.Run.{Entry}
use Rattle.ob_standard.specs.Standard.{StandardKind, standard}
use Rattle.ob_output.specs.Writing.{AppendsFront}
use Rattle.ob_threads.proofs.CutOff.{type_name, cut_by, wants, line_ends, segment_split, segment_more, all_taken}
use Rattle.ob_threads.proofs.journal.write_segment.Goals as goal

pub returns-in-Err-clause-cut_off : goal.returns-in-Err-clause-cut_off
returns-in-Err-clause-cut_off g c =
    cut_by (g.W.Write.contents c.args.writer.now) (g.W.Write.contents c.args.writer.now) (g.W.Write.contents c.write_out.new.writer) []
    (header_line c.args.seats c.args.segment.now.number c.args.segment.now.first) (entry_lines standard.type_name c.args.segment.now.entries)
    (segment_lines standard.type_name c.args.seats c.args.segment.now) refl (Appends-nil _)
    (subst (AppendsFront (g.W.Write.contents c.args.writer.now) (g.W.Write.contents c.write_out.new.writer))
    (c.as_slice.ensures.value ∙ c.in-Ok.ensures ∙ ap (λ (s : Segment StandardKind). header_line c.args.seats s.number s.first) c.segment.view_is) c.in-Err.ensures.front)

pub returns-in_default-write_line-clause-cut_off : goal.returns-in_default-write_line-clause-cut_off
returns-in_default-write_line-clause-cut_off g c =
    let es = c.args.segment.now.entries in
    let header = header_line c.args.seats c.args.segment.now.number c.args.segment.now.first in
    let i = c.loop-entry.entry-index in
    let e = c.entry-item.result in
    let same : c.as_slice-entry-items.result.now ≡ es = c.as_slice-entry-items.ensures.value ∙ ap (λ (s : Segment StandardKind). s.entries) c.segment.view_is in
    let inside = subst (λ (l : List (Entry StandardKind)). i < length l) same c.loop-entry-test.true in
    let is = subst (λ (l : List (Entry StandardKind)). e ≡ get_or l i e) same c.entry-item.is in
    wants (g.W.Write.contents c.args.writer.now) (g.W.Write.contents c.loop-entry.writer) (header ++ entry_lines type_name (take i es)) (entry_line type_name e ++ entry_lines type_name (drop (suc i) es))
    (header ++ entry_lines type_name es) (segment_split es i e inside is header) (line_ends e (entry_lines type_name (drop (suc i) es))) c.loop-entry.invariant

pub returns-in-Err-write_out-clause-cut_off : goal.returns-in-Err-write_out-clause-cut_off
returns-in-Err-write_out-clause-cut_off g c =
    let es = c.args.segment.now.entries in
    let header = header_line c.args.seats c.args.segment.now.number c.args.segment.now.first in
    let i = c.loop-entry.entry-index in
    let e = c.entry-item.result in
    let same : c.as_slice-entry-items.result.now ≡ es = c.as_slice-entry-items.ensures.value ∙ ap (λ (s : Segment StandardKind). s.entries) c.segment.view_is in
    let inside = subst (λ (l : List (Entry StandardKind)). i < length l) same c.loop-entry-test.true in
    let is = subst (λ (l : List (Entry StandardKind)). e ≡ get_or l i e) same c.entry-item.is in
    cut_by (g.W.Write.contents c.args.writer.now) (g.W.Write.contents c.loop-entry.writer) (g.W.Write.contents c.write_out-in-loop-entry.new.writer)
    (header ++ entry_lines type_name (take i es)) (entry_line type_name e) (entry_lines type_name (drop (suc i) es)) (header ++ entry_lines type_name es)
    (segment_split es i e inside is header) c.loop-entry.invariant
    (subst (AppendsFront (g.W.Write.contents c.loop-entry.writer) (g.W.Write.contents c.write_out-in-loop-entry.new.writer)) (c.as_slice-in-loop-entry.ensures.value ∙ c.in-Ok-write_line.ensures) c.in-Err-write_out.ensures.front)

pub loop-entry-preserved : goal.loop-entry-preserved
loop-entry-preserved g c =
    let es = c.args.segment.now.entries in
    let header = header_line c.args.seats c.args.segment.now.number c.args.segment.now.first in
    let i = c.loop-entry.entry-index in
    let e = c.entry-item.result in
    let same : c.as_slice-entry-items.result.now ≡ es = c.as_slice-entry-items.ensures.value ∙ ap (λ (s : Segment StandardKind). s.entries) c.segment.view_is in
    let inside = subst (λ (l : List (Entry StandardKind)). i < length l) same c.loop-entry-test.true in
    let is = subst (λ (l : List (Entry StandardKind)). e ≡ get_or l i e) same c.entry-item.is in
    subst (Appends (g.W.Write.contents c.args.writer.now) (g.W.Write.contents c.write_out-in-loop-entry.new.writer)) (segment_more es i e inside is header)
    (Appends-trans _ (g.W.Write.contents c.loop-entry.writer) _ (header ++ entry_lines type_name (take i es)) (entry_line type_name e) c.loop-entry.invariant
    (subst (Appends (g.W.Write.contents c.loop-entry.writer) (g.W.Write.contents c.write_out-in-loop-entry.new.writer)) (c.as_slice-in-loop-entry.ensures.value ∙ c.in-Ok-write_line.ensures) c.in_default-write_out-2.ensures.ok))

pub returns-clause-written : goal.returns-clause-written
returns-clause-written g c =
    let header = header_line c.args.seats c.args.segment.now.number c.args.segment.now.first in
    let same : c.as_slice-entry-items.result.now ≡ c.args.segment.now.entries = c.as_slice-entry-items.ensures.value ∙ ap (λ (s : Segment StandardKind). s.entries) c.segment.view_is in
    subst (Appends (g.W.Write.contents c.args.writer.now) (g.W.Write.contents c.loop-entry.writer)) (all_taken c.args.segment.now.entries c.loop-entry.entry-index header (subst (λ (l : List (Entry StandardKind)). length l ≤ c.loop-entry.entry-index) same c.loop-entry-test.false))
    c.loop-entry.invariant
