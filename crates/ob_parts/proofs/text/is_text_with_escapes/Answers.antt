-- The bytes are a text exactly where the rest is one, and that is one exactly where it is empty.
use Rattle.std.proofs.Common.{◌∙◌, List, ℕ, [], length, ap, sym}
use Rattle.std.proofs.lemmas.Bool.{eqb-true, eq-eqb}
use Rattle.std.proofs.lemmas.List.{nil_from_length}
use Rattle.ob_parts.proofs.Spelled.{text_goes_on, text_went_on, text_ends}
use Rattle.ob_parts.proofs.text.is_text_with_escapes.Goals as goal

pub loop-behind-preserved : goal.loop-behind-preserved
loop-behind-preserved c = (
  (λ h. c.loop-behind.invariant.0 (text_goes_on _ _ _ c.in-Some.ensures.found h)),
  (λ h. text_went_on _ _ _ c.in-Some.ensures.found (c.loop-behind.invariant.1 h)),
)

pub returns : goal.returns
returns c =
    let rest : List ℕ = c.loop-behind.rest.now in (
      (λ h. c.loop-behind.invariant.0 ([], nil_from_length rest (eqb-true _ _ (sym c.is_empty.ensures ∙ h)))),
      (λ h. let text = c.loop-behind.invariant.1 h in
          c.is_empty.ensures ∙ eq-eqb _ _ (ap length (text_ends rest text.0 c.in_default.ensures.none text.1).0)),
    )
