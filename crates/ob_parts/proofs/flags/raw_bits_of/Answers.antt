use Rattle.std.proofs.Common.{◌∙◌, arith}
use Rattle.ob_parts.proofs.Flagged.{digit_at, digits_small, hex_more}
use Rattle.std.proofs.lemmas.Int.Digits.{digits_more}
use Rattle.ob_parts.proofs.flags.raw_bits_of.Goals as goal

pub overflow_mul-bits : goal.overflow_mul-bits
overflow_mul-bits c =
    let small = digits_small _ _ c.loop-digit-test.true c.loop-digit.invariant.2 c.loop-digit.invariant.1 in
    omega (arith, small, c.loop-digit.invariant.0)

pub overflow_add-bits : goal.overflow_add-bits
overflow_add-bits c =
    let small = digits_small _ _ c.loop-digit-test.true c.loop-digit.invariant.2 c.loop-digit.invariant.1 in
    omega (arith, small, c.loop-digit.invariant.0, c.in_ok-hex_value.ensures.value.1, c.from.ensures)

pub loop-digit-preserved : goal.loop-digit-preserved
loop-digit-preserved c = (
  hex_more _ _ _ _ c.loop-digit-test.true c.loop-digit.invariant.0 (c.from.ensures ∙ c.in_ok-hex_value.ensures.value.0),
  digits_more 16 _ _ c.loop-digit-test.true c.loop-digit.invariant.1 (rw (← c.in_ok-hex_value.ensures.value.0) c.in_ok-hex_value.ensures.value.1),
  c.loop-digit.invariant.2,
)

pub returns-in_err-hex_value-clause-none : goal.returns-in_err-hex_value-clause-none
returns-in_err-hex_value-clause-none c = rw c.from_residual.ensures (λ all. c.in_err-hex_value.ensures.none (digit_at _ _ all.0 c.loop-digit-test.true))
