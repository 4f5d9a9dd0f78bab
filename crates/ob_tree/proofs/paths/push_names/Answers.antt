-- One name more, and all names.
use Rattle.std.proofs.Common.{ℕ, ◌-◌, List, [], ◌++◌, length, get_or, refl, Bor, map, ap, ◌∙◌, arith}
use Rattle.ob_model.specs.Naming.{names_joined}
use Rattle.ob_tree.proofs.Writing.{names_back, all_done}
use Rattle.ob_tree.proofs.paths.push_names.Goals as goal

pub loop-step-preserved : goal.loop-step-preserved
loop-step-preserved c =
    let none : Bor (List ℕ) = record { ref_ptr = (0, 0); now = [] } in
    names_back (λ (name : Bor (List ℕ)). name.now) c.args.way.now (get_or c.args.way.now (length c.args.way.now - 1 - c.loop-step.step) none) none c.loop-step.step c.args.out.now.items c.loop-step.out.items
    c.extend_from_slice.new.self.items c.extend_from_slice-in-loop-step.new.self.items c.loop-step-test.true refl c.loop-step.invariant c.in_ok-extend_from_slice.ensures.items c.in_ok-extend_from_slice-2.ensures.items

pub returns : goal.returns
returns c =
    c.loop-step.invariant
    ∙ ap (λ (ns : List (Bor (List ℕ))). c.args.out.now.items ++ names_joined (map (λ (name : Bor (List ℕ)). name.now) ns)) (all_done c.args.way.now c.loop-step.step (omega (arith, c.loop-step-test.false)))
