-- One name more; and at the end all names are passed.
use Rattle.std.proofs.Common.{List, map, reverse, ap, sym, ◌∙◌}
use Rattle.std.proofs.lemmas.List.{reverse-reverse}
use Rattle.std.proofs.lemmas.Iterator.Adapters.{YieldsList-from_rev_slice}
use Rattle.std.proofs.lemmas.Iterator.Consumers.{YieldsList-end}
use Rattle.ob_model.specs.Naming.{names_joined}
use Rattle.ob_commands.proofs.WaysUp.{names_more, text_more, path_joined}
use Rattle.ob_commands.proofs.naming.path_text.Goals as goal

pub loop-name-preserved : goal.loop-name-preserved
loop-name-preserved c =
    let passed = map (λ name. name.now) (reverse (map (λ name. name.now) c.loop-name.yielded)) in
    let names = names_more (λ name. name.now) (λ name. name.now) c.loop-name.yielded c.in-Some.name in
    text_more c.loop-name.text.items c.push.new.self.items c.extend_from_slice.new.self.items c.in-Some.name.now.now passed c.in_ok-push.ensures.items
    c.in_ok-extend_from_slice.ensures.items c.loop-name.invariant
    ∙ sym (ap names_joined names)

pub returns : goal.returns
returns c =
    let way = c.args.way.now in
    let passed = YieldsList-end (YieldsList-from_rev_slice way (cc)) c.loop-name.yielded _ c.loop-name.yielded_by _ _ c.in-None.is c.next.ensures.steps in
    c.loop-name.invariant
    ∙ ap (λ (rows : List _). names_joined (map (λ name. name.now) (reverse rows))) passed.0
    ∙ ap (λ (rows : List _). names_joined (map (λ name. name.now) rows)) (reverse-reverse way)
    ∙ path_joined (λ name. name.now) way (sym c.is_empty.ensures ∙ c.if-is_empty.false)
