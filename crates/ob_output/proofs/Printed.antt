-- Lines of the output.
use Rattle.std.proofs.Common.{◌≡◌, ℕ, ◌+◌, ◌<◌, List, [], ◌∷◌, ◌++◌, length, take, get_or, refl, ap, sym, ◌∙◌, append_assoc, append-nil}
use Rattle.std.specs.List.{AllByRecursion}
use Rattle.ob_base.specs.declared.status.Status.{Status}
use Rattle.ob_base.specs.declared.status.Status.TheVariants.{TypeRefused}
use Rattle.ob_base.specs.Status.{text_of}
use Rattle.std.proofs.lemmas.Bool.{ne_eqb}
use Rattle.std.proofs.lemmas.List.{take_more}
use Rattle.ob_output.specs.Printed.{IsItself, printed_byte, printed_bytes}

-- how many bytes the word of a type's refusal has
pub refused_length : (s : Status) (n : ℕ) → s ≡ TypeRefused n → length (text_of s) ≡ 12
refused_length s n e = rw e refl

-- bytes behind others are printed behind them
pub printed_append : (a b : List ℕ) → printed_bytes (a ++ b) ≡ printed_bytes a ++ printed_bytes b
printed_append [] b = refl
printed_append (x ∷ a) b = ap (λ z. printed_byte x ++ z) (printed_append a b) ∙ sym (append_assoc (printed_byte x) (printed_bytes a) (printed_bytes b))

-- one byte more is printed behind what was there
pub printed_more : (had part line more : List ℕ) (i : ℕ) → i < length part → line ≡ had ++ printed_bytes (take i part)
    → more ≡ line ++ printed_byte (get_or part i 0) → more ≡ had ++ printed_bytes (take (i + 1) part)
printed_more had part line more i l e m =
    m ∙ (ap (λ z. z ++ printed_byte (get_or part i 0)) e ∙ (append_assoc had (printed_bytes (take i part)) (printed_byte (get_or part i 0)) ∙ ap (λ z. had ++ z) (sym one)))
  where
    one : printed_bytes (take (i + 1) part) ≡ printed_bytes (take i part) ++ printed_byte (get_or part i 0)
    one =
        ap printed_bytes (take_more part i 0 l) ∙ (printed_append (take i part) (get_or part i 0 ∷ [])
        ∙ ap (λ z. printed_bytes (take i part) ++ z) (append-nil (printed_byte (get_or part i 0))))

-- bytes that are neither `%` nor `"` are printed as themselves
pub printed_as_it_is : (bytes : List ℕ) → AllByRecursion IsItself bytes → printed_bytes bytes ≡ bytes
printed_as_it_is [] all = refl
printed_as_it_is (byte ∷ bytes) all = rw (ne_eqb byte 0x25 all.0.0, ne_eqb byte 0x22 all.0.1, printed_as_it_is bytes all.1) refl
