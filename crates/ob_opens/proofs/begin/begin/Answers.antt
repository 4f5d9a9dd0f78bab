-- The parse is that of the open which waits for it.
use Rattle.std.proofs.Common.{◌∙◌, List, ℕ, sym, subst}
use Rattle.std.specs.Arc.{arc_value}
use Rattle.ob_model.specs.declared.reply.Answer.TheVariants.{Ticket}
use Rattle.ob_model.specs.Opens.{Begins}
use Rattle.ob_types.specs.Parse.{ToRun}
use Rattle.ob_opens.specs.Waiting.{IsParseOf}
use Rattle.ob_opens.proofs.Begun.{awaits}
use Rattle.ob_opens.proofs.begin.begin.Goals as goal

pub returns-in-Ok-clause-begun : goal.returns-in-Ok-clause-begun
returns-in-Ok-clause-begun g c =
    let s = c.args.space.now in
    let t = c.begin_parse.new.space in
    let asks = c.args.request in
    subst (λ (parse : ToRun _). Begins g.T.TypeSet.procedures s asks.process asks.attrs asks.wanted c.args.object c.args.rest c.args.left (Ticket parse.ticket) t) (sym c.new.ensures)
    (subst (λ (rest : List ℕ). Begins g.T.TypeSet.procedures s asks.process asks.attrs asks.wanted c.args.object rest c.args.left (Ticket c.in-Ok.ticket) t) c.in_ok-face.ensures.kept
    c.in-Ok.ensures.begun)

pub returns-in-Ok-clause-parse : goal.returns-in-Ok-clause-parse
returns-in-Ok-clause-parse g c =
    let s = c.args.space.now in
    let t = c.begin_parse.new.space in
    let asks = c.args.request in
    let same = c.in_ok-face.ensures.asked ∙ sym c.in_ok-face.ensures.kept in
    subst (λ parse. IsParseOf t parse) (sym c.new.ensures)
    (subst (λ (rest : List ℕ). IsParseOf t (record { ticket = c.in-Ok.ticket; face = arc_value c.in_ok-face.face; rest = rest })) (sym same)
    (awaits g.T.TypeSet.procedures s t asks.process asks.attrs asks.wanted c.args.object c.in_ok-face.kept c.args.left (arc_value c.in_ok-face.face) c.in-Ok.ticket c.requires.between.sound c.requires.between.settled
    c.in_ok-face.ensures.face c.in-Ok.ensures.begun))
