-- Texts and what they spell.
use Rattle.std.proofs.Common.{◌≡◌, ◌≢◌, ℕ, ◌+◌, ◌*◌, inl, inr, List, [], ◌∷◌, refl, subst, arith}
use Rattle.std.specs.List.{AllByRecursion}
use Rattle.std.specs.Char.{IsAsciiAlphabetic, IsAsciiAlphanumeric, digit_value}
use Rattle.ob_parts.specs.Text.{Lacks, IsVariable, IsPlain, IsHexDigit, WritesByte, SpellsByte, Spells, IsText, TextsSpellOneThing}

-- a text begins with the spelling of one byte at most
pub byte_alike : (text : List ℕ) (a b : ℕ) (x y : List ℕ) → SpellsByte text a x → SpellsByte text b y → (a ≡ b) × (x ≡ y)
byte_alike text a b x y (inl p) (inl q) = let e : text ≡ a ∷ x = p.1 in let f : text ≡ b ∷ y = q.1 in ((cc), (cc))
byte_alike text a b x y (inl p) (inr q) =
    let e : text ≡ a ∷ x = p.1 in let f : text ≡ 0x25 ∷ q.0 = q.1 in let h : a ≡ 0x25 = cc in absurd (p.0.3 h)
byte_alike text a b x y (inr p) (inl q) =
    let e : text ≡ b ∷ y = q.1 in let f : text ≡ 0x25 ∷ p.0 = p.1 in let h : b ≡ 0x25 = cc in absurd (q.0.3 h)
byte_alike text a b x y (inr (d, e, (h, l, hh, hl, p, q))) (inr (d', e', (h', l', hh', hl', p', q'))) =
    let digits : h ∷ l ∷ x ≡ h' ∷ l' ∷ y = cc in
    let high : h ≡ h' = cc in
    let low : l ≡ l' = cc in
    let value : 16 * digit_value h + digit_value l ≡ 16 * digit_value h' + digit_value l' = rw (high, low) refl in
    ((cc), (cc))

-- a text spells one list of bytes at most
pub spells_alike : TextsSpellOneThing
spells_alike text [] [] s t = refl
spells_alike text [] (b ∷ bs) s (rest, inl p, t) = let e : text ≡ b ∷ rest = p.1 in cc
spells_alike text [] (b ∷ bs) s (rest, inr p, t) = let e : text ≡ 0x25 ∷ p.0 = p.1 in cc
spells_alike text (b ∷ bs) [] (rest, inl p, t) s = let e : text ≡ b ∷ rest = p.1 in cc
spells_alike text (b ∷ bs) [] (rest, inr p, t) s = let e : text ≡ 0x25 ∷ p.0 = p.1 in cc
spells_alike text (a ∷ as') (b ∷ bs) (x, p, s) (y, q, t) =
    let same : (a ≡ b) × (x ≡ y) = byte_alike text a b x y p q in
    let moved : Spells x bs = rw same.1 t in
    let rest : as' ≡ bs = spells_alike x as' bs s moved in
    cc

-- a text has no quote
pub text_lacks : (text bytes : List ℕ) → Spells text bytes → Lacks 0x22 text
text_lacks text [] s = rw s tt
text_lacks text (b ∷ bs) (rest, inl p, t) = rw p.1 (p.0.2, text_lacks rest bs t)
text_lacks text (b ∷ bs) (rest, inr (digits, e, (high, low, h, l, v, f)), t) =
    rw (e, f) ((λ x. omega (arith, x)), (not_quote high h, (not_quote low l, text_lacks rest bs t)))
  where
    not_quote : (c : ℕ) → IsHexDigit c → c ≢ 0x22
    not_quote c h e = let bad = rw e at h in omega (arith, bad)

-- a variable has no byte that is neither a letter nor a digit
variable_lacks_other : (m : ℕ) (variable : List ℕ) → (IsAsciiAlphanumeric m → ⊥) → IsVariable variable → Lacks m variable
variable_lacks_other m [] foreign w = absurd w
variable_lacks_other m (c ∷ cs) foreign w = (one c (first c w.0), others cs w.1)
  where
    first : (c : ℕ) → IsAsciiAlphabetic c → IsAsciiAlphanumeric c
    first c (inl h) = inl (inr h)
    first c (inr h) = inr h

    one : (c : ℕ) → IsAsciiAlphanumeric c → c ≢ m
    one c h e = foreign (subst IsAsciiAlphanumeric e h)

    others : (cs : List ℕ) → AllByRecursion IsAsciiAlphanumeric cs → Lacks m cs
    others [] w = tt
    others (c ∷ cs) w = (one c w.0, others cs w.1)

-- a variable has no space, no colon, no plus and no quote
pub variable_lacks : (variable : List ℕ) → IsVariable variable → Lacks 0x20 variable
variable_lacks variable w = variable_lacks_other 0x20 variable space w
  where
    space : IsAsciiAlphanumeric 0x20 → ⊥
    space (inl (inl h)) = omega arith
    space (inl (inr h)) = omega arith
    space (inr h) = omega arith

pub variable_lacks_colon : (variable : List ℕ) → IsVariable variable → Lacks 0x3A variable
variable_lacks_colon variable w = variable_lacks_other 0x3A variable colon w
  where
    colon : IsAsciiAlphanumeric 0x3A → ⊥
    colon (inl (inl h)) = omega arith
    colon (inl (inr h)) = omega arith
    colon (inr h) = omega arith

pub variable_lacks_plus : (variable : List ℕ) → IsVariable variable → Lacks 0x2B variable
variable_lacks_plus variable w = variable_lacks_other 0x2B variable plus w
  where
    plus : IsAsciiAlphanumeric 0x2B → ⊥
    plus (inl (inl h)) = omega arith
    plus (inl (inr h)) = omega arith
    plus (inr h) = omega arith

pub variable_lacks_quote : (variable : List ℕ) → IsVariable variable → Lacks 0x22 variable
variable_lacks_quote variable w = variable_lacks_other 0x22 variable quote w
  where
    quote : IsAsciiAlphanumeric 0x22 → ⊥
    quote (inl (inl h)) = omega arith
    quote (inl (inr h)) = omega arith
    quote (inr h) = omega arith

-- behind the spelling of a byte stands a text where the whole is one, and the other way round
pub text_goes_on : (text rest : List ℕ) (b : ℕ) → SpellsByte text b rest → IsText rest → IsText text
text_goes_on text rest b s (bytes, t) = (b ∷ bytes, (rest, s, t))

pub text_went_on : (text rest : List ℕ) (b : ℕ) → SpellsByte text b rest → IsText text → IsText rest
text_went_on text rest b (inl p) ([], t) = let e : text ≡ b ∷ rest = p.1 in cc
text_went_on text rest b (inr p) ([], t) = let e : text ≡ 0x25 ∷ p.0 = p.1 in cc
text_went_on text rest b s (c ∷ bytes, (more, p, t)) =
    let same : (b ≡ c) × (rest ≡ more) = byte_alike text b c rest more s p in (bytes, rw same.1 t)

-- a text that begins with no spelling of a byte is empty
pub text_ends : (text bytes : List ℕ) → ((b : ℕ) (rest : List ℕ) → ¬ SpellsByte text b rest) → Spells text bytes → (text ≡ []) × (bytes ≡ [])
text_ends text [] none s = (s, refl)
text_ends text (b ∷ bytes) none (rest, p, t) = absurd (none b rest p)

-- bytes that all stand for themselves are a text that spells them
pub plain_spells : (bytes : List ℕ) → AllByRecursion IsPlain bytes → Spells bytes bytes
plain_spells [] all = refl
plain_spells (b ∷ bytes) all = (bytes, inl (all.0, refl), plain_spells bytes all.1)

-- so is a text with no escape
pub spells_itself : (text bytes : List ℕ) → Lacks 0x25 text → Spells text bytes → Spells text text
spells_itself text [] lacks s = rw s refl
spells_itself text (b ∷ bytes) lacks (rest, inl p, t) =
    let behind : Lacks 0x25 (b ∷ rest) = subst (Lacks 0x25) p.1 lacks in
    rw p.1 (rest, inl (p.0, refl), spells_itself rest bytes behind.1 t)
spells_itself text (b ∷ bytes) lacks (rest, inr (digits, e, w), t) =
    let escaped : Lacks 0x25 (0x25 ∷ digits) = subst (Lacks 0x25) e lacks in absurd (escaped.0 refl)

-- a text that begins with `%`, with no digits behind it, spells nothing
pub no_byte_written : (text rest : List ℕ) (first : ℕ) → text ≡ first ∷ rest → first ≡ 0x25
    → ((b : ℕ) (more : List ℕ) → ¬ WritesByte rest b more) → (b : ℕ) (more : List ℕ) → ¬ SpellsByte text b more
no_byte_written text rest first e f none b more (inl p) =
    let t : text ≡ b ∷ more = p.1 in let h : b ≡ 0x25 = cc in p.0.3 h
no_byte_written text rest first e f none b more (inr (digits, t, w)) =
    let same : digits ≡ rest = cc in none b more (rw (← same) w)
