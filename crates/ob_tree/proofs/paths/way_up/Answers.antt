-- One name more, and no more names.
use Rattle.std.proofs.Common.{ℕ, ◌+◌, ◌-◌, List, [], ◌∷◌, ◌++◌, Bor, map, ap, ◌∙◌, arith}
use Rattle.std.proofs.lemmas.List.{map-append}
use Rattle.ob_model.specs.Naming.{names_joined}
use Rattle.ob_tree.proofs.Writing.{way_more, way_ends, way_spent}
use Rattle.ob_tree.proofs.paths.way_up.Goals as goal

pub returns-in_default : goal.returns-in_default
returns-in_default c =
    c.loop-step.invariant
    ∙ ap (λ (xs : List ℕ). xs ++ names_joined (map (λ (name : Bor (List ℕ)). name.now) c.loop-step.way.items)) (way_ends c.args.names.now c.loop-step.top (c.args.object - c.loop-step.step) c.in_default.ensures)

pub loop-step-preserved : goal.loop-step-preserved
loop-step-preserved c =
    way_more c.args.names.now c.loop-step.top (c.args.object - (c.loop-step.step + 1)) (c.args.object - c.loop-step.step) (map (λ (name : Bor (List ℕ)). name.now) c.loop-step.way.items)
    (map (λ (name : Bor (List ℕ)). name.now) c.push.new.self.items) c.in-Some.row.now _ c.in-Some.ensures (omega (arith, c.loop-step-test.true, c.object.view_is))
    (ap (map (λ (name : Bor (List ℕ)). name.now)) c.in_ok-push.ensures.items ∙ map-append (λ (name : Bor (List ℕ)). name.now) c.loop-step.way.items (c.as_slice.result ∷ [])
    ∙ ap (λ (name : List ℕ). map (λ (name : Bor (List ℕ)). name.now) c.loop-step.way.items ++ name ∷ []) c.as_slice.ensures)
    c.loop-step.invariant

pub returns : goal.returns
returns c =
    c.loop-step.invariant
    ∙ ap (λ (xs : List ℕ). xs ++ names_joined (map (λ (name : Bor (List ℕ)). name.now) c.loop-step.way.items))
    (way_spent c.args.names.now c.loop-step.top (c.args.object - c.loop-step.step) (omega (arith, c.loop-step-test.false, c.object.view_is)))
