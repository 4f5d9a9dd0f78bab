-- The form of texts, byte by byte.
use Rattle.std.proofs.Common.{◌≡◌, ℕ, ◌+◌, ◌<◌, List, [], ◌∷◌, ◌++◌, length, take, get_or, refl, ap, sym, ◌∙◌, append_assoc, append-nil}
use Rattle.std.proofs.lemmas.List.{take_more}
use Rattle.ob_entries.specs.Lines.{escaped, escaped_byte}

-- bytes behind others are escaped behind them
pub escaped-append : (a b : List ℕ) → escaped (a ++ b) ≡ escaped a ++ escaped b
escaped-append [] b = refl
escaped-append (x ∷ a) b = ap (λ z. escaped_byte x ++ z) (escaped-append a b) ∙ sym (append_assoc (escaped_byte x) (escaped a) (escaped b))

-- one byte more is escaped
pub escaped_more : (bytes text more : List ℕ) (i : ℕ) → i < length bytes → text ≡ escaped (take i bytes) → more ≡ text ++ escaped_byte (get_or bytes i 0)
    → more ≡ escaped (take (i + 1) bytes)
escaped_more bytes text more i l e m =
    m ∙ (ap (λ z. z ++ escaped_byte (get_or bytes i 0)) e
    ∙ sym (ap escaped (take_more bytes i 0 l) ∙ (escaped-append (take i bytes) (get_or bytes i 0 ∷ []) ∙ ap (λ z. escaped (take i bytes) ++ z) (append-nil (escaped_byte (get_or bytes i 0))))))
