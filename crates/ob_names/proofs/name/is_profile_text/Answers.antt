-- All bytes are judged, and whether each so far is one of the profile is folded.
use Rattle.std.proofs.Common.{◌≡◌, ◌∙◌, ℕ, Bool, true, false, ◌&&◌, List, [], ◌∷◌, refl, rules}
use Rattle.std.proofs.lemmas.Iterator.{YieldsList-from_slice}
use Rattle.std.proofs.lemmas.Iterator.Consumers.{fold_from_yields_List}
use Rattle.std.specs.List.{fold}
use Rattle.ob_model.specs.Names.{is_profile_byte, is_profile_text}
use Rattle.ob_names.proofs.name.is_profile_text.Goals as goal

abbrev judged : Bool → ℕ → Bool
judged good byte = good && is_profile_byte byte

judged_all : (bytes : List ℕ) (good : Bool) → fold judged good bytes ≡ (good && is_profile_text bytes)
judged_all [] true = refl
judged_all [] false = refl
judged_all (b ∷ bs) true = judged_all bs (is_profile_byte b)
judged_all (b ∷ bs) false = judged_all bs false

-- src/name.rt:84:1
pub returns : goal.returns
returns c =
    fold_from_yields_List _ judged true _ c.fold.ensures.ran (YieldsList-from_slice _ c.iter.ensures.rest) (λ good byte r f called. search rules)
    ∙ judged_all c.args.bytes.now true
