-- All bytes are judged, and whether each so far is plain is folded.
use Rattle.std.proofs.Common.{rules, ◌≡◌, ◌∙◌, ℕ, Bool, true, false, ◌&&◌, List, [], ◌∷◌, refl, ap, sym, arith}
use Rattle.std.proofs.lemmas.Iterator.{YieldsList-from_slice}
use Rattle.std.proofs.lemmas.Iterator.Consumers.{fold_from_yields_List}
use Rattle.std.proofs.lemmas.Bool.Decides.{nat_tests}
use Rattle.std.specs.List.{AllByRecursion, fold}
use Rattle.ob_parts.specs.Plain.{is_plain}
use Rattle.ob_parts.specs.Text.{IsPlain}
use Rattle.ob_parts.proofs.text.are_plain.Goals as goal

abbrev judged : Bool → ℕ → Bool
judged plain byte = plain && is_plain byte

-- what the test tells
plain_passes : (byte : ℕ) → is_plain byte ≡ true → IsPlain byte
plain_passes byte passes = grind (arith, nat_tests, passes)

passes_plain : (byte : ℕ) → IsPlain byte → is_plain byte ≡ true
passes_plain byte plain = grind (arith, nat_tests, plain)

stays_false : (bytes : List ℕ) → fold judged false bytes ≡ false
stays_false [] = refl
stays_false (b ∷ bs) = stays_false bs

all_passed : (bytes : List ℕ) → fold judged true bytes ≡ true → AllByRecursion IsPlain bytes
all_passed [] passed = tt
all_passed (b ∷ bs) passed = go (is_plain b) refl (all_passed bs) passed
  where
    go : (t : Bool) → is_plain b ≡ t → (fold judged true bs ≡ true → AllByRecursion IsPlain bs) → fold judged t bs ≡ true → IsPlain b × AllByRecursion IsPlain bs
    go true here others passes = (plain_passes b here, others passes)
    go false here others passes = let none : fold judged false bs ≡ false = stays_false bs in cc

all_pass : (bytes : List ℕ) → AllByRecursion IsPlain bytes → fold judged true bytes ≡ true
all_pass [] plain = refl
all_pass (b ∷ bs) plain = ap (λ t. fold judged t bs) (passes_plain b plain.0) ∙ all_pass bs plain.1

-- src/text.rt:86:1
pub returns : goal.returns
returns c =
    let folded = fold_from_yields_List _ judged true _ c.fold.ensures.ran (YieldsList-from_slice _ c.iter.ensures.rest) (λ plain byte r f called. search rules) in
    (λ passed. all_passed c.args.bytes.now (sym folded ∙ passed), λ plain. folded ∙ all_pass c.args.bytes.now plain)
