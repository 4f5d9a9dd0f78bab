-- Pointers to texts that end in a byte 0, as a caller in C reads them.
--
-- Source: this profile.
use Rattle.std.specs.Prelude.{◌≡◌, ℕ, List, ◌⊎◌, codes}
use denote.Ref.{Bor}
use Rattle.std.specs.Ptr.{as_ptr}
use denote.RawPtr.{Ptr, null_ptr}
use Rattle.ob_numbers.specs.Texts.{IsStatusText, zero_ended}
use Rattle.ob_c.specs.Pending.{pending_code}

-- the text of the status that has this number: one of the machine's, or that of a pending open
abbrev pub IsNumberText : ℕ → List ℕ → Type 0
IsNumberText n text = IsStatusText n text ⊎ ((n ≡ pending_code) × (text ≡ zero_ended (codes "PENDING")))

-- a pointer leads to a text of this form, or it is null and there is no such text
abbrev pub LeadsTo : (List ℕ → Type 0) → Ptr → Type 0
LeadsTo IsText p = ((text : Bor (List ℕ)) × IsText text.now × (p ≡ as_ptr text)) ⊎ ((p ≡ null_ptr) × ((text : List ℕ) → IsText text → ⊥))
