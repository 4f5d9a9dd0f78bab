-- Nothing is pending under the ticket, or only what the open pinned can go.
use Rattle.std.proofs.Common.{List, ◌∙◌, sym, subst}
use Rattle.ob_model.specs.declared.state.PendingOpen.{PendingOpen}
use Rattle.ob_model.specs.Settle.{IsSettled}
use Rattle.ob_life.specs.Settling.{with_handle_to}
use Rattle.ob_space.specs.Namespace.{parts, state_of}
use Rattle.ob_opens.proofs.Ended.{held_in_place, nothing_ends}
use Rattle.ob_opens.proofs.Pinning.{opens_orderly}
use Rattle.ob_opens.proofs.unpin.end_parse.Goals as goal

pub returns-in_err-pending-clause-orderly : goal.returns-in_err-pending-clause-orderly
returns-in_err-pending-clause-orderly g c =
    let s = state_of g.row.T-Kind.Denot (parts c.space.inside) in
    opens_orderly g.T.TypeSet.idle s c.take.new.self (rw (← c.space.view_is) at c.requires.orderly)

pub returns-in_err-pending-clause-ended : goal.returns-in_err-pending-clause-ended
returns-in_err-pending-clause-ended g c =
    rw (← c.space.view_is) (
    let s = state_of g.row.T-Kind.Denot (parts c.space.inside) in
    (λ i. record s { pending = c.take.ensures.others i })
    ∙ nothing_ends g.T.TypeSet.procedures s c.args.ticket (sym c.take.ensures.there ∙ c.in_err-pending.was) (rw (← c.space.view_is) at c.requires.settled))

pub settle_after_loss-requires-clause-orderly : goal.settle_after_loss-requires-clause-orderly
settle_after_loss-requires-clause-orderly g c κs within =
    let s = state_of g.row.T-Kind.Denot (parts c.space.inside) in
    opens_orderly g.T.TypeSet.idle s c.take.new.self (rw (← c.space.view_is) at c.requires.orderly)

pub settle_after_loss-requires-clause-shadows : goal.settle_after_loss-requires-clause-shadows
settle_after_loss-requires-clause-shadows g c κs within =
    let fit = rw (← c.space.view_is) at c.requires.shadows in
    record { inside = fit.inside; shadows = fit.shadows }

pub settle_after_loss-requires-clause-kept : goal.settle_after_loss-requires-clause-kept
settle_after_loss-requires-clause-kept g c κs within =
    let s = state_of g.row.T-Kind.Denot (parts c.space.inside) in
    subst (λ (xs : List (PendingOpen g.row.T-Kind.Denot)). IsSettled (with_handle_to (record s { pending = xs }) c.in_ok-pending.pending.object)) (sym c.take.ensures.others)
    (held_in_place s c.args.ticket c.in_ok-pending.pending c.len.ensures.rising (sym c.take.ensures.there ∙ c.in_ok-pending.was) (rw (← c.space.view_is) at c.requires.settled))
