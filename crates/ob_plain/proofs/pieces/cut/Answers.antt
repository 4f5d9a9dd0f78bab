-- The place where the text is cut is that of its first byte of the value.
use Rattle.std.proofs.Common.{ℕ, ◌∙◌, ◌+◌, ◌==◌, ◌∷◌, take, drop, ap, sym, arith}
use Rattle.std.proofs.lemmas.Bool.Decides.{nat_tests}
use Rattle.std.proofs.lemmas.List.{take_all, take_rest}
use Rattle.std.specs.List.{slice_split}
use Rattle.ob_plain.proofs.Cuts.{place_is, before_is, behind_is, none_inside, whole, first_part}
use Rattle.ob_plain.proofs.pieces.cut.Goals as goal

pub returns-then-place-text-clause-before : goal.returns-then-place-text-clause-before
returns-then-place-text-clause-before c =
    let f = c.first_place-place.ensures in let place = c.first_place-place.result in
    sym (take_all place c.args.text.now (grind (arith, nat_tests))) ∙ before_is c.args.byte c.args.text.now place f

pub returns-then-place-text-clause-none : goal.returns-then-place-text-clause-none
returns-then-place-text-clause-none c =
    none_inside (λ b. b == c.args.byte) c.args.text.now (place_is c.args.byte c.args.text.now _ c.first_place-place.ensures ∙ (grind (arith, nat_tests)))

pub returns-then-place-text-clause-parts : goal.returns-then-place-text-clause-parts
returns-then-place-text-clause-parts c =
    whole (λ b. b == c.args.byte) c.args.text.now (place_is c.args.byte c.args.text.now _ c.first_place-place.ensures ∙ (grind (arith, nat_tests)))

pub returns-else-place-text-clause-before : goal.returns-else-place-text-clause-before
returns-else-place-text-clause-before c = before_is c.args.byte c.args.text.now c.first_place-place.result c.first_place-place.ensures

pub returns-else-place-text-clause-behind : goal.returns-else-place-text-clause-behind
returns-else-place-text-clause-behind c =
    take_rest c.args.text.now (c.first_place-place.result + 1) ∙ behind_is c.args.byte c.args.text.now c.first_place-place.result c.first_place-place.ensures

pub returns-else-place-text-clause-parts : goal.returns-else-place-text-clause-parts
returns-else-place-text-clause-parts c =
    let place = c.first_place-place.result in let text = c.args.text.now in
    let test = λ (b : ℕ). b == c.args.byte in
    let is = place_is c.args.byte text place c.first_place-place.ensures in
    let inside = c.first_place-place.ensures.inside in
    first_part test text (grind (arith, nat_tests))
    ∙ ap (λ n. take n text ∷ slice_split test (drop (n + 1) text)) is
    ∙ ap (λ rest. take place text ∷ slice_split test rest) (sym (take_rest text (place + 1)))
