-- An entry is a quote, its name, a quote and its type's name; where a write fails, a beginning of it is.
use Rattle.std.proofs.Common.{◌∙◌}
use Rattle.ob_output.proofs.Writers.{at_err, at_err_weaker}
use Rattle.ob_output.proofs.Gathered.{at_ok_weaker}
use Rattle.ob_scripts.proofs.Listed.{left_all, left_front, quote_more, quote_front, name_more, name_front, close_more, close_front}
use Rattle.ob_scripts.proofs.printing.write_long_entry.Goals as goal

pub returns-in_err-gather-clause-front : goal.returns-in_err-gather-clause-front
returns-in_err-gather-clause-front g c = at_err c.from_residual.result _ (quote_front c.args.block.now.items c.args.entry.now c.in_err-gather.ensures.front)

pub returns-in_err-write_printed-clause-front : goal.returns-in_err-write_printed-clause-front
returns-in_err-write_printed-clause-front g c =
    at_err c.from_residual-in_err-write_printed.result _
    (name_front c.args.entry.now _ c.as_slice.ensures (quote_more c.args.entry.now c.in_ok-gather.ensures.ok) c.in_err-write_printed.ensures.front)

pub returns-in_err-gather-2-clause-front : goal.returns-in_err-gather-2-clause-front
returns-in_err-gather-2-clause-front g c =
    at_err c.from_residual-in_err-gather-2.result _
    (close_front c.args.entry.now
    (name_more c.args.entry.now _ c.as_slice.ensures (quote_more c.args.entry.now c.in_ok-gather.ensures.ok) c.in_ok-write_printed.ensures.ok) c.in_err-gather-2.ensures.front)

pub returns-clause-ok : goal.returns-clause-ok
returns-clause-ok g c =
    at_ok_weaker c.write_plain.result _ _
    (left_all c.args.entry.now.type_name _ (c.as_bytes.ensures.value ∙ c.as_str.ensures)
    (close_more c.args.entry.now
    (name_more c.args.entry.now _ c.as_slice.ensures (quote_more c.args.entry.now c.in_ok-gather.ensures.ok) c.in_ok-write_printed.ensures.ok) c.in_ok-gather-2.ensures.ok))
    c.write_plain.ensures.ok

pub returns-clause-front : goal.returns-clause-front
returns-clause-front g c =
    at_err_weaker c.write_plain.result _ _
    (left_front c.args.entry.now.type_name _ (c.as_bytes.ensures.value ∙ c.as_str.ensures)
    (close_more c.args.entry.now
    (name_more c.args.entry.now _ c.as_slice.ensures (quote_more c.args.entry.now c.in_ok-gather.ensures.ok) c.in_ok-write_printed.ensures.ok) c.in_ok-gather-2.ensures.ok))
    c.write_plain.ensures.front
