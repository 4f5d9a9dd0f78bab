-- The new open is pending in place of the old one.
use Rattle.std.proofs.Common.{◌∙◌, ◌+◌, ap, sym, subst, arith}
use Rattle.ob_model.specs.declared.reply.Answer.TheVariants.{Ticket}
use Rattle.ob_model.specs.Looks.{Parse}
use Rattle.ob_model.specs.PendingOpens.{without_pending}
use Rattle.ob_model.specs.Settle.{IsSettled, settle}
use Rattle.ob_model.specs.State.{State}
use Rattle.ob_space.specs.Namespace.{parts, state_of}
use Rattle.ob_opens.specs.Again.{OpensAgain}
use Rattle.ob_opens.proofs.BegunAgain.{put_beside, begins_again, pins_again}
use Rattle.ob_opens.proofs.FoundOpen.{found_open}
use Rattle.ob_opens.proofs.Pinning.{pending_orderly, pending_settled}
use Rattle.ob_opens.proofs.reparse.begin_again.Goals as goal

pub end_parse-requires-clause-orderly : goal.end_parse-requires-clause-orderly
end_parse-requires-clause-orderly g c κs within =
    let s = state_of g.row.T-Kind.Denot (parts c.space.inside) in
    pending_orderly g.T.TypeSet.idle s s.set c.insert.new.self (s.next_id + 1) (rw (← c.space.view_is) at c.requires.between.orderly) (omega (arith))

pub end_parse-requires-clause-shadows : goal.end_parse-requires-clause-shadows
end_parse-requires-clause-shadows g c κs within =
    let sound = rw (← c.space.view_is) at c.requires.between.sound in
    record { inside = sound.rows.inside; shadows = sound.objects.shadows }

pub end_parse-requires-clause-settled : goal.end_parse-requires-clause-settled
end_parse-requires-clause-settled g c κs within =
    let s = c.args.space.now in
    let x = c.in-Some.pending.now in
    let found = found_open c.space.view_is c.args.ticket _ c.in-Some.ensures in
    let put = put_beside g.T.TypeSet.procedures s c.args.ticket x found c.args.object c.args.rest c.args.left (state_of g.row.T-Kind.Denot (parts c.space.inside)) c.space.view_is c.insert.new.self c.in_ok-insert.ensures.last in
    subst (λ (t : State _ _ _ _). IsSettled t) (sym put) (pending_settled g.T.TypeSet.procedures s x.process x.attrs x.wanted c.args.object c.args.rest c.args.left c.requires.between.settled)

pub returns-clause-opened : goal.returns-clause-opened
returns-clause-opened g c =
    let s = c.args.space.now in
    let x = c.in-Some.pending.now in
    let found = found_open c.space.view_is c.args.ticket _ c.in-Some.ensures in
    let put = put_beside g.T.TypeSet.procedures s c.args.ticket x found c.args.object c.args.rest c.args.left (state_of g.row.T-Kind.Denot (parts c.space.inside)) c.space.view_is c.insert.new.self c.in_ok-insert.ensures.last in
    subst (λ n. OpensAgain g.T.TypeSet.procedures s c.args.ticket (Parse c.args.object c.args.rest c.args.left) (Ticket n) c.end_parse.new.space) (ap (λ (t : State _ _ _ _). t.next_id) (sym c.space.view_is))
    (begins_again g.T.TypeSet.procedures s c.args.ticket x found c.args.object c.args.rest c.args.left c.requires.between.sound c.end_parse.new.space
    (c.end_parse.ensures.ended ∙ ap (λ (t : State _ _ _ _). settle g.T.TypeSet.procedures (without_pending t c.args.ticket)) put)
    c.requires.room)

pub returns-clause-pins : goal.returns-clause-pins
returns-clause-pins g c =
    let s = c.args.space.now in
    let x = c.in-Some.pending.now in
    let found = found_open c.space.view_is c.args.ticket _ c.in-Some.ensures in
    let put = put_beside g.T.TypeSet.procedures s c.args.ticket x found c.args.object c.args.rest c.args.left (state_of g.row.T-Kind.Denot (parts c.space.inside)) c.space.view_is c.insert.new.self c.in_ok-insert.ensures.last in
    pins_again g.T.TypeSet.procedures s c.args.ticket x found c.args.object c.args.rest c.args.left c.requires.between.sound c.end_parse.new.space
    (c.end_parse.ensures.ended ∙ ap (λ (t : State _ _ _ _). settle g.T.TypeSet.procedures (without_pending t c.args.ticket)) put)
    c.space.inside.next_id (ap (λ (t : State _ _ _ _). Ticket t.next_id) (sym c.space.view_is))
