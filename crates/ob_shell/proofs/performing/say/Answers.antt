use Rattle.std.proofs.Common.{◌++◌, codes}
use Rattle.ob_output.proofs.Writers.{front-append, append-append-front, append-front-append, at_err, at_err_weaker}
use Rattle.ob_shell.proofs.performing.say.Goals as goal

pub returns-in_err-write_out-clause-front : goal.returns-in_err-write_out-clause-front
returns-in_err-write_out-clause-front g c =
    at_err c.from_residual.result _ (front-append _ _ (codes "ntns: ") (c.args.text.now ++ codes "\n") c.in_err-write_out.ensures.front)

pub returns-in_err-write_out-2-clause-front : goal.returns-in_err-write_out-2-clause-front
returns-in_err-write_out-2-clause-front g c =
    let part = rw c.as_bytes.ensures.value at c.in_err-write_out-2.ensures.front in
    at_err c.from_residual-in_err-write_out-2.result _
    (append-front-append _ (g.E.Write.contents c.write_out.new.writer) _ (codes "ntns: ") (c.args.text.now) (codes "\n") c.in_ok-write_out.ensures.ok part)

pub returns-clause-front : goal.returns-clause-front
returns-clause-front g c =
    let part = rw c.as_bytes.ensures.value at c.in_ok-write_out-2.ensures.ok in
    at_err_weaker c.write_out-3.result _ _
    (append-append-front _ (g.E.Write.contents c.write_out.new.writer) (g.E.Write.contents c.write_out-2.new.writer) _ (codes "ntns: ") (c.args.text.now) (codes "\n") c.in_ok-write_out.ensures.ok part)
    c.write_out-3.ensures.front
