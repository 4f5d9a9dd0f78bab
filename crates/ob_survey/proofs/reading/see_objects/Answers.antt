-- One object more, and all objects.
use Rattle.std.proofs.Common.{ℕ, List, [], ◌∷◌, ◌++◌, filter, map, nat_lt, ap, ◌∙◌, sym, arith}
use Rattle.ob_survey.specs.Surveying.{seen_of}
use Rattle.ob_tree.specs.declared.survey.Seen.{Seen}
use Rattle.ob_survey.proofs.Gathering.{one_more, all_below, none_below}
use Rattle.ob_survey.proofs.reading.see_objects.Goals as goal

pub loop-id-preserved : goal.loop-id-preserved
loop-id-preserved g c =
    let s = c.args.core.now in
    c.in_ok-push.ensures.items ∙ ap (λ (x : Seen). c.loop-id.seen.items ++ x ∷ []) c.in_ok-see.ensures
    ∙ ap (λ (xs : List Seen). xs ++ seen_of g.T.TypeSet.procedures s c.in-Some.id ∷ []) c.loop-id.invariant
    ∙ sym (one_more (λ o. o.id) (seen_of g.T.TypeSet.procedures s) c.loop-id.next c.in-Some.id s.objects c.state_is_sound.ensures.objects.rising c.in-Some.ensures.0 c.in-Some.ensures.1 c.in-Some.ensures.2)
    ∙ sym (ap (λ n. map (λ o. seen_of g.T.TypeSet.procedures s o.id) (filter (λ o. nat_lt o.id n) s.objects)) c.in_ok-next.ensures)

pub loop-id-init : goal.loop-id-init
loop-id-init g c = c.new-seen.ensures.items ∙ sym (none_below (λ o. o.id) (seen_of g.T.TypeSet.procedures c.args.core.now) 0 c.args.core.now.objects (λ k d within. omega arith))

pub returns : goal.returns
returns g c = c.loop-id.invariant ∙ all_below (λ o. o.id) (seen_of g.T.TypeSet.procedures c.args.core.now) c.loop-id.next c.args.core.now.objects c.in_default.ensures
