-- The open is pending under the next number, and nothing goes.
use Rattle.std.proofs.Common.{◌+◌, arith}
use Rattle.ob_space.specs.Namespace.{parts, state_of}
use Rattle.ob_opens.proofs.Pinning.{begins, pending_orderly}
use Rattle.ob_opens.proofs.pin.begin_parse.Goals as goal

pub returns-clause-orderly : goal.returns-clause-orderly
returns-clause-orderly g c =
    let s = state_of g.row.T-Kind.Denot (parts c.space.inside) in
    pending_orderly g.T.TypeSet.idle s s.set c.insert.new.self (s.next_id + 1) (rw (← c.space.view_is) at c.requires.between.orderly) (omega (arith))

pub returns-clause-begun : goal.returns-clause-begun
returns-clause-begun g c =
    rw (← c.space.view_is) (
    let s = state_of g.row.T-Kind.Denot (parts c.space.inside) in
    begins g.T.TypeSet.procedures s c.args.request.process c.args.request.attrs c.args.request.wanted c.args.object c.args.rest c.args.left
    (rw (← c.space.view_is) at c.requires.room) (rw (← c.space.view_is) at c.requires.between.settled) (record s { pending = c.insert.new.self; next_id = s.next_id + 1 })
    (λ i. record s { pending = c.in_ok-insert.ensures.last i; next_id = s.next_id + 1 }))
