-- Texts, byte by byte.
use Rattle.std.proofs.Common.{◌≡◌, ℕ, true, false, ◌==◌, List, [], ◌∷◌, ◌++◌, Option, Some, None, option_map, refl, sym, ap, ◌∙◌, arith, append_assoc, append-nil}
use Rattle.std.proofs.lemmas.Bool.Decides.{nat_tests}
use Rattle.ob_entries.specs.Lines.{is_itself}
use Rattle.ob_reader.specs.Reading.{◌>>=◌, byte_for, with_byte, unescaped}

-- nothing stands before a text
pub none_before : (rest : Option (List ℕ)) → rest ≡ option_map (λ others. [] ++ others) rest
none_before None = refl
none_before (Some others) = refl

behind_one : (bytes : List ℕ) (byte : ℕ) (rest : Option (List ℕ)) → option_map (λ others. bytes ++ others) (with_byte byte rest) ≡ option_map (λ others. (bytes ++ byte ∷ []) ++ others) rest
behind_one bytes byte None = refl
behind_one bytes byte (Some others) = ap Some (sym (append_assoc bytes (byte ∷ []) others))

-- one byte more stands before the rest
pub one_before : (text rest behind : Option (List ℕ)) (bytes items : List ℕ) (byte : ℕ) → text ≡ option_map (λ others. bytes ++ others) rest → rest ≡ with_byte byte behind → items ≡ bytes ++ byte ∷ []
    → text ≡ option_map (λ others. items ++ others) behind
one_before text rest behind bytes items byte t r e =
    t ∙ ap (option_map (λ others. bytes ++ others)) r ∙ behind_one bytes byte behind ∙ ap (λ front. option_map (λ others. front ++ others) behind) (sym e)

-- all stands before the empty rest
pub all_before : (text : Option (List ℕ)) (bytes rest : List ℕ) → text ≡ option_map (λ others. bytes ++ others) (unescaped rest) → rest ≡ [] → Some bytes ≡ text
unfolding unescaped
all_before text bytes rest t e = sym (t ∙ ap (λ z. option_map (λ others. bytes ++ others) (unescaped z)) e ∙ ap Some (append-nil bytes))

-- a rest of no form leaves none
pub none_behind : (text : Option (List ℕ)) (bytes rest : List ℕ) → text ≡ option_map (λ others. bytes ++ others) (unescaped rest) → unescaped rest ≡ None → None ≡ text
none_behind text bytes rest t e = sym (t ∙ ap (option_map (λ others. bytes ++ others)) e)

-- a byte that stands for itself is no `%`
itself_alone : (a : ℕ) → is_itself a ≡ true → (a == 0x25) ≡ false
itself_alone a h = grind (arith, nat_tests)

-- a text whose first byte stands for itself
pub itself_first : (a : ℕ) (text : List ℕ) → is_itself a ≡ true → unescaped (a ∷ text) ≡ with_byte a (unescaped text)
unfolding unescaped
itself_first a [] h = rw h
itself_first a (b ∷ []) h = rw h
itself_first a (b ∷ c ∷ text) h = rw (h, itself_alone a h) refl

-- a text whose first byte is neither such a byte nor `%`
pub other_first : (a : ℕ) (text : List ℕ) → is_itself a ≡ false → (a == 0x25) ≡ false → unescaped (a ∷ text) ≡ None
unfolding unescaped
other_first a [] h e = rw h
other_first a (b ∷ []) h e = rw h
other_first a (b ∷ c ∷ text) h e = rw (h, e) refl

-- a text that begins with `%`: two bytes must stand behind it, and they must be digits of a byte that is written so
pub escape_first : (b c : ℕ) (text : List ℕ) → unescaped (0x25 ∷ b ∷ c ∷ text) ≡ (byte_for b c >>= (λ byte. with_byte byte (unescaped text)))
unfolding unescaped
escape_first b c text = refl

pub escape_cut : unescaped (0x25 ∷ []) ≡ None
unfolding unescaped
escape_cut = refl

pub escape_cut_behind : (b : ℕ) → unescaped (0x25 ∷ b ∷ []) ≡ None
unfolding unescaped
escape_cut_behind b = refl

-- behind `%` the digits decide
pub escape_found : (text rest more : List ℕ) (b c byte : ℕ) → text ≡ b ∷ rest → rest ≡ c ∷ more → Some byte ≡ byte_for b c → unescaped (0x25 ∷ text) ≡ with_byte byte (unescaped more)
escape_found text rest more b c byte t r e =
    ap (λ z. unescaped (0x25 ∷ z)) (t ∙ ap (λ z. b ∷ z) r) ∙ (escape_first b c more ∙ ap (λ z. z >>= (λ x. with_byte x (unescaped more))) (sym e))

pub escape_of_none : (text rest more : List ℕ) (b c : ℕ) → text ≡ b ∷ rest → rest ≡ c ∷ more → None ≡ byte_for b c → unescaped (0x25 ∷ text) ≡ None
escape_of_none text rest more b c t r e =
    ap (λ z. unescaped (0x25 ∷ z)) (t ∙ ap (λ z. b ∷ z) r) ∙ (escape_first b c more ∙ ap (λ z. z >>= (λ x. with_byte x (unescaped more))) (sym e))

pub escape_ends : (text : List ℕ) → text ≡ [] → unescaped (0x25 ∷ text) ≡ None
escape_ends text t = ap (λ z. unescaped (0x25 ∷ z)) t ∙ escape_cut

pub escape_ends_behind : (text rest : List ℕ) (b : ℕ) → text ≡ b ∷ rest → rest ≡ [] → unescaped (0x25 ∷ text) ≡ None
escape_ends_behind text rest b t r = ap (λ z. unescaped (0x25 ∷ z)) (t ∙ ap (λ z. b ∷ z) r) ∙ escape_cut_behind b
