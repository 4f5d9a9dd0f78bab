-- Pages: how many entries of a directory a line asks for, and which.
--
-- Source: this profile.
use Rattle.std.specs.Prelude.{◌≡◌, ℕ, ◌<◌, ◌^◌, Bool, true, false, List, codes}
use Rattle.std.specs.Fmt.{decimal}
use Rattle.ob_parts.specs.declared.page.PageMode.{PageMode}
use Rattle.ob_parts.specs.declared.page.PageMode.TheVariants.{First, Next, FirstSingle, NextSingle}

-- the decimal digits of a number below 2^32, without needless zeros
abbrev pub IsRoom : List ℕ → ℕ → Type 0
IsRoom bytes room = (bytes ≡ decimal room) × (room < 2 ^ 32)

-- the word of a mode
abbrev pub mode_text : PageMode → List ℕ
mode_text First = codes "first"
mode_text Next = codes "next"
mode_text FirstSingle = codes "first1"
mode_text NextSingle = codes "next1"

-- whether the listing begins again, with the first entry
abbrev pub is_first : PageMode → Bool
is_first First = true
is_first Next = false
is_first FirstSingle = true
is_first NextSingle = false

-- whether one entry alone is asked for
abbrev pub is_single : PageMode → Bool
is_single First = false
is_single Next = false
is_single FirstSingle = true
is_single NextSingle = true
