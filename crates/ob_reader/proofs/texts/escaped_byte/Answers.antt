-- Two bytes must stand behind `%`, and be digits.
use Rattle.std.proofs.lemmas.List.{nil_from_length}
use Rattle.ob_reader.proofs.Unescaped.{escape_found, escape_of_none, escape_ends, escape_ends_behind}
use Rattle.ob_reader.proofs.texts.escaped_byte.Goals as goal

pub returns-in_err-high-clause-none : goal.returns-in_err-high-clause-none
returns-in_err-high-clause-none c = rw c.from_residual.ensures (escape_ends c.args.text.now (nil_from_length c.args.text.now c.in_err-high.ensures.cases))

pub returns-in_err-low-clause-none : goal.returns-in_err-low-clause-none
returns-in_err-low-clause-none c =
    rw c.from_residual-in_err-low.ensures (escape_ends_behind c.args.text.now c.in_ok-high.rest.now c.in_ok-high.high.now c.in_ok-high.ensures.cases.0 (nil_from_length c.in_ok-high.rest.now c.in_err-low.ensures.cases))

pub returns-in_err-byte-clause-none : goal.returns-in_err-byte-clause-none
returns-in_err-byte-clause-none c =
    rw c.from_residual-in_err-byte.ensures
    (escape_of_none c.args.text.now c.in_ok-high.rest.now c.in_ok-low.rest.now c.in_ok-high.high.now c.in_ok-low.low.now c.in_ok-high.ensures.cases.0 c.in_ok-low.ensures.cases.0 c.in_err-byte.ensures)

pub returns-clause-found : goal.returns-clause-found
returns-clause-found c =
    escape_found c.args.text.now c.in_ok-high.rest.now c.in_ok-low.rest.now c.in_ok-high.high.now c.in_ok-low.low.now c.in_ok-byte.byte c.in_ok-high.ensures.cases.0 c.in_ok-low.ensures.cases.0 c.in_ok-byte.ensures
