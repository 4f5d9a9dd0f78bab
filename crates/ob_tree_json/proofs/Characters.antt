-- Texts, character by character.
use Rattle.std.proofs.Common.{◌≡◌, ℕ, ◌+◌, ◌<◌, List, [], ◌∷◌, ◌++◌, length, take, get_or, encode_utf8, refl, ap, sym, ◌∙◌, append_assoc, append-nil}
use Rattle.std.proofs.lemmas.List.{take_more}
use Rattle.ob_tree_json.specs.Json.{characters}

-- bytes after others are characters after theirs
characters-append : (a b : List ℕ) → characters (a ++ b) ≡ characters a ++ characters b
characters-append [] b = refl
characters-append (x ∷ a) b = ap (λ z. encode_utf8 x ++ z) (characters-append a b) ∙ sym (append_assoc (encode_utf8 x) (characters a) (characters b))

-- one byte more is one character more
pub characters_more : (bytes text more : List ℕ) (i : ℕ) → i < length bytes → text ≡ characters (take i bytes) → more ≡ text ++ encode_utf8 (get_or bytes i 0)
    → more ≡ characters (take (i + 1) bytes)
characters_more bytes text more i l e m =
    m ∙ (ap (λ z. z ++ encode_utf8 (get_or bytes i 0)) e
    ∙ sym (ap characters (take_more bytes i 0 l) ∙ (characters-append (take i bytes) (get_or bytes i 0 ∷ []) ∙ ap (λ z. characters (take i bytes) ++ z) (append-nil (encode_utf8 (get_or bytes i 0))))))
