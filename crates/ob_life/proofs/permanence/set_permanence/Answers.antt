-- The object is turned, and has the handle by which that was asked, so what it leaves is settled; or it is left,
-- where it has no name and is to be permanent.
use Rattle.std.proofs.Common.{◌≡◌, ◌∙◌, true, ap, sym, subst}
use Rattle.std.proofs.lemmas.Bool.{false≢true}
use Rattle.ob_model.specs.declared.reply.Answer.TheVariants.{Done}
use Rattle.ob_model.specs.Settle.{has_name}
use Rattle.ob_space.specs.Namespace.{parts}
use Rattle.ob_space.specs.Orderly.{IsOrderly}
use Rattle.ob_life.proofs.Turned.{turned_space, turned_orderly, turns_it, leaves_it, turns}
use Rattle.ob_life.proofs.permanence.set_permanence.Goals.{else-permanent-via-then-permanent+else-not-is_named, else-permanent-via-else-permanent}
use Rattle.ob_life.proofs.permanence.set_permanence.Goals as goal

pub returns-then-not-is_named-clause-step : goal.returns-then-not-is_named-clause-step
returns-then-not-is_named-clause-step g c =
    let s = c.args.space.now in
    turns g.T.TypeSet.procedures s s c.args.process c.args.handle c.args.permanent (Done c.status_alone-then-not-is_named.result) c.in-Some.held c.requires.settled (sym c.is_live.ensures ∙ c.if-not-is_live.false) (sym c.in-Some.ensures)
    (ap Done c.status_alone-then-not-is_named.ensures) (leaves_it s c.in-Some.held.object c.args.permanent c.if-permanent.true (sym c.is_named.ensures ∙ c.if-not-is_named.true))

pub returns-clause-orderly : goal.returns-clause-orderly
returns-clause-orderly g c =
    let o = c.in-Some.held.object in
    subst (IsOrderly g.T.TypeSet.idle) (sym (turned_space g.row.T-Kind.Denot (parts c.space.inside) c.args.space.now c.space.view_is c.set_permanent.new.self o c.args.permanent c.set_permanent.ensures))
    (turned_orderly g.T.TypeSet.idle c.args.space.now o c.args.permanent c.requires.orderly)

pub returns-clause-step : goal.returns-clause-step
returns-clause-step g c =
    let s = c.args.space.now in
    let o = c.in-Some.held.object in
    let named : c.args.permanent ≡ true → has_name s o ≡ true = elim c.else-permanent.branch [
      | else-permanent-via-then-permanent+else-not-is_named w ↦ λ asked. sym w.is_named.ensures ∙ w.if-not-is_named.false
      | else-permanent-via-else-permanent w ↦ λ asked. absurd (false≢true (sym w.if-permanent.false ∙ asked))
    ] in
    turns g.T.TypeSet.procedures s _ c.args.process c.args.handle c.args.permanent (Done c.status_alone-2.result) c.in-Some.held c.requires.settled (sym c.is_live.ensures ∙ c.if-not-is_live.false) (sym c.in-Some.ensures)
    (ap Done c.status_alone-2.ensures)
    (turned_space g.row.T-Kind.Denot (parts c.space.inside) s c.space.view_is c.set_permanent.new.self o c.args.permanent c.set_permanent.ensures ∙ turns_it s o c.args.permanent named)
