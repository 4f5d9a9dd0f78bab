-- What a key answers where a link is there.
use Rattle.std.proofs.Common.{◌≡◌, ◌≢◌, ◌∙◌, ℕ, ◌-◌, List, [], ◌∷◌, Some, length, refl, sym, ap, ap₂}
use Rattle.ob_model.specs.Names.{separator, next_component, after_component}
use Rattle.ob_plain.specs.Arguments.{without_separator}
use Rattle.ob_key.specs.Entries.{KeyPlace, target_of, path_below}
use Rattle.ob_key.specs.Key.{key_answer, answer_to, answer_at, link_answer}

answers_at_link : (face : KeyPlace) (whole : ℕ) (name behind target : List ℕ) → name ≢ [] → target_of face.entries (path_below face.path name) ≡ Some target → answer_to face whole name behind ≡ link_answer target behind
answers_at_link face whole [] behind target some found = absurd (some refl)
answers_at_link face whole (c ∷ cs) behind target some found =
    ap (λ t. answer_at face.entries t (path_below face.path (c ∷ cs)) (whole - length behind) behind) found

pub link_answers : (face : KeyPlace) (rest name behind target : List ℕ) → rest ≢ [] → name ≢ []
    → name ≡ next_component (separator ∷ without_separator rest) → behind ≡ after_component (separator ∷ without_separator rest)
    → target_of face.entries (path_below face.path name) ≡ Some target → key_answer face rest ≡ link_answer target behind
link_answers face [] name behind target full some next after found = absurd (full refl)
link_answers face (b ∷ bs) name behind target full some next after found =
    ap₂ (λ c r. answer_to face (length (b ∷ bs)) c r) (sym next) (sym after) ∙ answers_at_link face (length (b ∷ bs)) name behind target some found
