-- One less where one is pending under the ticket, and else all.
use Rattle.std.proofs.Common.{◌∙◌, sym, arith}
use Rattle.ob_space.proofs.Waiting.{none_less, one_less}
use Rattle.ob_space.proofs.space.opens_without.Goals as goal

pub returns-in-Some : goal.returns-in-Some
returns-in-Some g c =
    rw (← c.space.view_is) (
    let less = one_less c.args.ticket c.space.inside.pending c.in-Some.field-0.now c.len-opens.ensures.rising (sym c.in-Some.ensures) in
    let all = c.len-opens.ensures.count in
    omega (arith, less, all))

pub returns-in-None : goal.returns-in-None
returns-in-None g c = rw (← c.space.view_is) (c.len-opens.ensures.count ∙ none_less c.args.ticket c.space.inside.pending (sym c.in-None.ensures))
