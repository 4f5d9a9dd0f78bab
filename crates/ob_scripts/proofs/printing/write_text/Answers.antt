-- The text is a quote, its bytes as they are printed, and a quote; where a write fails, a beginning of it is.
use Rattle.std.proofs.Common.{codes, ◌++◌, refl}
use Rattle.ob_output.specs.Printed.{printed_bytes}
use Rattle.ob_output.proofs.Writers.{at_err, at_err_weaker}
use Rattle.ob_output.proofs.Gathered.{at_ok_weaker}
use Rattle.ob_scripts.proofs.Listed.{left_more, left_first, left_all, left_front, quoted_begins}
use Rattle.ob_scripts.proofs.printing.write_text.Goals as goal

pub returns-in_err-gather-clause-front : goal.returns-in_err-gather-clause-front
returns-in_err-gather-clause-front g c =
    at_err c.from_residual.result _
    (left_first (codes " \"") (printed_bytes c.args.text.now ++ codes "\"") (quoted_begins (g.W.Write.contents c.args.writer.now) c.args.block.now.items c.args.text.now)
    c.in_err-gather.ensures.front)

pub returns-in_err-write_printed-clause-front : goal.returns-in_err-write_printed-clause-front
returns-in_err-write_printed-clause-front g c =
    at_err c.from_residual-in_err-write_printed.result _
    (left_first (printed_bytes c.args.text.now) (codes "\"")
    (left_more (codes " \"") (printed_bytes c.args.text.now ++ codes "\"") (quoted_begins (g.W.Write.contents c.args.writer.now) c.args.block.now.items c.args.text.now)
    c.in_ok-gather.ensures.ok) c.in_err-write_printed.ensures.front)

pub returns-clause-ok : goal.returns-clause-ok
returns-clause-ok g c =
    at_ok_weaker c.gather-2.result _ _
    (left_all (codes "\"") _ refl
    (left_more (printed_bytes c.args.text.now) (codes "\"")
    (left_more (codes " \"") (printed_bytes c.args.text.now ++ codes "\"") (quoted_begins (g.W.Write.contents c.args.writer.now) c.args.block.now.items c.args.text.now)
    c.in_ok-gather.ensures.ok) c.in_ok-write_printed.ensures.ok))
    c.gather-2.ensures.ok

pub returns-clause-front : goal.returns-clause-front
returns-clause-front g c =
    at_err_weaker c.gather-2.result _ _
    (left_front (codes "\"") _ refl
    (left_more (printed_bytes c.args.text.now) (codes "\"")
    (left_more (codes " \"") (printed_bytes c.args.text.now ++ codes "\"") (quoted_begins (g.W.Write.contents c.args.writer.now) c.args.block.now.items c.args.text.now)
    c.in_ok-gather.ensures.ok) c.in_ok-write_printed.ensures.ok))
    c.gather-2.ensures.front
