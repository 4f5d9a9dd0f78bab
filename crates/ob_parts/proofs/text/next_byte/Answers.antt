-- Behind `%` the digits decide.
use Rattle.ob_parts.proofs.Cuts.{IfNone-map}
use Rattle.ob_parts.proofs.Spelled.{no_byte_written}
use Rattle.ob_parts.proofs.text.next_byte.Goals as goal

pub returns-in-37-clause-none : goal.returns-in-37-clause-none
returns-in-37-clause-none c =
    IfNone-map c.escaped_byte.result _ _ (no_byte_written c.args.text.now c.in_ok-first.rest.now c.in_ok-first.first.now c.in_ok-first.ensures.cases.0 c.in-37.is)
    c.escaped_byte.ensures.none
