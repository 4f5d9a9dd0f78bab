-- The parse is that of the open which waits for it again, or the open is refused since no more fits.
use Rattle.std.proofs.Common.{◌∙◌, List, ℕ, sym, subst}
use Rattle.std.specs.Arc.{arc_value}
use Rattle.ob_model.specs.declared.reply.Answer.TheVariants.{Done, Ticket}
use Rattle.ob_model.specs.Looks.{Parse}
use Rattle.ob_types.specs.Parse.{ToRun}
use Rattle.ob_opens.specs.Again.{OpensAgain}
use Rattle.ob_opens.specs.Waiting.{IsParseOf}
use Rattle.ob_opens.proofs.BegunAgain.{full_there}
use Rattle.ob_opens.proofs.Resumed.{handed}
use Rattle.ob_opens.proofs.look_again.begin_anew.Goals as goal

pub returns-then-is_full_without-clause-begun : goal.returns-then-is_full_without-clause-begun
returns-then-is_full_without-clause-begun g c =
    full_there g.T.TypeSet.procedures c.args.space.now c.args.ticket c.args.object c.args.left c.args.rest (Done c.refuse_open.result) c.refuse_open.new.space
    c.requires.pending (sym c.is_full_without.ensures ∙ c.if-is_full_without.true) c.refuse_open.ensures.answer c.refuse_open.ensures.ended

pub returns-in-Ok-clause-begun : goal.returns-in-Ok-clause-begun
returns-in-Ok-clause-begun g c =
    let s = c.args.space.now in
    let t = c.begin_again.new.space in
    subst (λ (parse : ToRun _). OpensAgain g.T.TypeSet.procedures s c.args.ticket (Parse c.args.object c.args.rest c.args.left) (Ticket parse.ticket) t) (sym c.new.ensures)
    (subst (λ (rest : List ℕ). OpensAgain g.T.TypeSet.procedures s c.args.ticket (Parse c.args.object rest c.args.left) (Ticket c.in-Ok.next) t) c.in_ok-face.ensures.kept
    c.in-Ok.ensures.opened)

pub returns-in-Ok-clause-parse : goal.returns-in-Ok-clause-parse
returns-in-Ok-clause-parse g c =
    let s = c.args.space.now in
    let t = c.begin_again.new.space in
    let same = c.in_ok-face.ensures.asked ∙ sym c.in_ok-face.ensures.kept in
    let pins = c.in-Ok.ensures.pins in
    subst (λ parse. IsParseOf t parse) (sym c.new.ensures)
    (subst (λ (rest : List ℕ). IsParseOf t (record { ticket = c.in-Ok.next; face = arc_value c.in_ok-face.face; rest = rest })) (sym same)
    (handed g.T.TypeSet.procedures s t c.in-Ok.next c.args.object c.in_ok-face.kept (arc_value c.in_ok-face.face) pins.0 (pins.1 ∙ c.in_ok-face.ensures.face)))
