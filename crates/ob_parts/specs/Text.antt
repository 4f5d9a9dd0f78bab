-- Texts: how a script spells bytes, and variables.
--
-- Source: this profile.
use Rattle.std.specs.Prelude.{◌≡◌, ◌≢◌, ℕ, ◌+◌, ◌*◌, ◌<◌, ◌≤◌, ◌⊎◌, List, [], ◌∷◌, length, codes}
use Rattle.std.specs.List.{AllByRecursion}
use Rattle.std.specs.Char.{IsAsciiAlphabetic, IsAsciiAlphanumeric, digit_value}

-- no byte of the list is this one
abbrev pub Lacks : ℕ → List ℕ → Type 0
Lacks b bytes = AllByRecursion (λ c. c ≢ b) bytes

-- a variable: a letter and up to 31 letters or digits
abbrev pub IsVariable : List ℕ → Type 0
IsVariable [] = ⊥
IsVariable (c ∷ cs) = IsAsciiAlphabetic c × AllByRecursion IsAsciiAlphanumeric cs × (length cs ≤ 31)

-- a process variable: a variable that is none of the language's own
abbrev pub IsProcessVariable : List ℕ → Type 0
IsProcessVariable variable = IsVariable variable × (variable ≢ codes "stat") × (variable ≢ codes "thread") × (variable ≢ codes "join")

-- a byte that stands for itself: 0x20 to 0x7E, but not `"` (0x22) and not `%` (0x25)
abbrev pub IsPlain : ℕ → Type 0
IsPlain c = (0x20 ≤ c) × (c ≤ 0x7E) × (c ≢ 0x22) × (c ≢ 0x25)

-- a hexadecimal digit, of either case
abbrev pub IsHexDigit : ℕ → Type 0
IsHexDigit c = digit_value c < 16

-- two hexadecimal digits write the byte, and the rest follows them
abbrev pub WritesByte : List ℕ → ℕ → List ℕ → Type 0
WritesByte digits byte rest =
    (high low : ℕ) × IsHexDigit high × IsHexDigit low × (byte ≡ 16 * digit_value high + digit_value low)
    × (digits ≡ high ∷ low ∷ rest)

-- the text begins with the spelling of one byte, and goes on so: the byte itself, or `%` (0x25) and
-- two hexadecimal digits
abbrev pub SpellsByte : List ℕ → ℕ → List ℕ → Type 0
SpellsByte text byte rest =
    (IsPlain byte × (text ≡ byte ∷ rest))
    ⊎ ((digits : List ℕ) × (text ≡ 0x25 ∷ digits) × WritesByte digits byte rest)

-- the text spells these bytes, one after another, and nothing else
abbrev pub Spells : List ℕ → List ℕ → Type 0
Spells text [] = text ≡ []
Spells text (byte ∷ bytes) = (rest : List ℕ) × SpellsByte text byte rest × Spells rest bytes

-- a text: the spelling of some bytes
abbrev pub IsText : List ℕ → Type 0
IsText text = (bytes : List ℕ) × Spells text bytes

-- a text spells no two lists of bytes
abbrev pub TextsSpellOneThing : Type 0
TextsSpellOneThing = (text a b : List ℕ) → Spells text a → Spells text b → a ≡ b
