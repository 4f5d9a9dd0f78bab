-- Where a cut fails, or what stands between the quotes is no text, the bytes begin with none.
use Rattle.std.proofs.lemmas.Bool.{both_ways}
use Rattle.ob_parts.proofs.Readings.{moved, text_parts, text_unclosed}
use Rattle.ob_parts.specs.Text.{IsText}
use Rattle.ob_parts.proofs.parts.take_text.Goals as goal

pub returns-in_err-text-clause-none : goal.returns-in_err-text-clause-none
returns-in_err-text-clause-none c =
    rw c.from_residual-in_err-text.ensures
    (λ t r. text_unclosed _ _ t r c.in_ok-quoted.ensures.found c.in_err-text.ensures.none)

pub returns-in_err-rest-clause-none : goal.returns-in_err-rest-clause-none
returns-in_err-rest-clause-none c =
    rw c.from_residual-in_err-rest.ensures
    (λ t r b. c.in_err-rest.ensures.none r
    (text_parts _ _ _ _ t r c.in_ok-quoted.ensures.found c.in_ok-text.ensures.found.0 c.in_ok-text.ensures.found.1 b).1)

pub returns-then-not-is_text-clause-none : goal.returns-then-not-is_text-clause-none
returns-then-not-is_text-clause-none c = λ t r b.
    let parts = text_parts _ _ _ _ t r c.in_ok-quoted.ensures.found c.in_ok-text.ensures.found.0 c.in_ok-text.ensures.found.1 b in
    both_ways _ c.if-not-is_text.true (c.is_text.ensures.1 (moved IsText _ _ parts.0 b.0))
