-- All bytes stand before the empty rest.
use Rattle.std.proofs.Common.{Some, ◌∙◌, ap, sym}
use Rattle.std.proofs.lemmas.Bool.{eqb-true}
use Rattle.std.proofs.lemmas.List.{nil_from_length}
use Rattle.ob_reader.specs.Reading.{unescaped}
use Rattle.ob_reader.proofs.Unescaped.{all_before}
use Rattle.ob_reader.proofs.texts.unescape.Goals as goal

pub returns-then-is_empty : goal.returns-then-is_empty
returns-then-is_empty c =
    let ends = nil_from_length c.loop-byte.rest.now (eqb-true _ _ (sym c.is_empty.ensures ∙ c.if-is_empty.true)) in
    ap Some c.new.ensures ∙ all_before (unescaped c.args.text.now) c.loop-byte.bytes.items c.loop-byte.rest.now c.loop-byte.invariant ends
