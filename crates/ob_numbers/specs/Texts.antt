-- Texts that end in a byte 0, as a caller in C reads them, and the numbers of statuses.
--
-- Source: the Windows Driver Kit's "NTSTATUS values".
use Rattle.std.specs.Prelude.{◌≡◌, ℕ, ◌<◌, ◌^◌, List, [], ◌∷◌, ◌++◌}
use Rattle.ob_base.specs.Status.{code_of, text_of}
use Rattle.ob_base.specs.declared.status.Status.{Status}
use Rattle.ob_base.specs.declared.status.Status.TheVariants.{TypeRefused}

-- a text with a byte 0 after it
abbrev pub zero_ended : List ℕ → List ℕ
zero_ended text = text ++ 0 ∷ []

-- the own number of a type's refusal is one of 16 bits
abbrev pub HasShortNumber : Status → Type 0
HasShortNumber (TypeRefused number) = number < 2 ^ 16
HasShortNumber status = Unit {0}

-- a number is that of a status
abbrev pub IsCode : ℕ → Status → Type 0
IsCode n status = (n ≡ code_of status) × HasShortNumber status

-- the text of the status that has this number, as a caller in C reads it
abbrev pub IsStatusText : ℕ → List ℕ → Type 0
IsStatusText n text = (status : Status) × IsCode n status × (text ≡ zero_ended (text_of status))
