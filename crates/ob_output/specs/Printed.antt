-- Lines of the output.
--
-- Source: this profile.
use Rattle.std.specs.Prelude.{◌≢◌, ℕ, ◌==◌, List, [], ◌∷◌, ◌++◌, if◌then◌else◌, codes}
use Rattle.std.specs.Fmt.{decimal}
use Rattle.ob_base.specs.declared.status.Status.{Status}
use Rattle.ob_base.specs.declared.status.Status.TheVariants.{TypeRefused}
use Rattle.ob_base.specs.Status.{text_of}
use Rattle.ob_model.specs.declared.entries.Listed.{Listed}
use Rattle.ob_model.specs.declared.reply.Given.{Given}
use Rattle.ob_model.specs.declared.reply.Given.TheVariants.{Nothing, Handle, Text, Process, Page}
use Rattle.ob_model.specs.declared.reply.Reply.{Reply}
use Rattle.ob_output.specs.declared.counts.Totals.{Totals}

-- a line of the output: the number of the script's line, a colon, a space, a text and LF
abbrev pub output_line : ℕ → List ℕ → List ℕ
output_line number text = decimal number ++ codes ": " ++ text ++ codes "\n"

-- what follows the word of a status: a type's own number of its refusal, after a space
abbrev pub refusal_number_of : Status → List ℕ
refusal_number_of (TypeRefused number) = codes " " ++ decimal number
refusal_number_of status = []

-- the text of a status: its word, with a type's own number
abbrev pub status_text : Status → List ℕ
status_text status = text_of status ++ refusal_number_of status

-- how a byte of a text is printed: `%` (0x25) as `%25`, `"` (0x22) as `%22`, and any other as itself
abbrev pub printed_byte : ℕ → List ℕ
printed_byte byte = if byte == 0x25 then codes "%25" else if byte == 0x22 then codes "%22" else byte ∷ []

-- a byte that is printed as itself
abbrev pub IsItself : ℕ → Type 0
IsItself byte = (byte ≢ 0x25) × (byte ≢ 0x22)

abbrev pub printed_bytes : List ℕ → List ℕ
printed_bytes [] = []
printed_bytes (byte ∷ bytes) = printed_byte byte ++ printed_bytes bytes

-- an entry of a page: its name between double quotes and its type's name, each after a space
abbrev pub entry_text : Listed → List ℕ
entry_text e = codes " \"" ++ printed_bytes e.name ++ codes "\" " ++ e.type_name

abbrev pub entries_text : List Listed → List ℕ
entries_text [] = []
entries_text (e ∷ es) = entry_text e ++ entries_text es

-- what follows the status of a reply: a text that is given, between double quotes after a space,
-- or the entries that a page shows; handles, processes and the contexts of pages are never printed
abbrev pub given_text : Given → List ℕ
given_text Nothing = []
given_text (Handle handle) = []
given_text (Text text) = codes " \"" ++ printed_bytes text ++ codes "\""
given_text (Process process values) = []
given_text (Page entries context) = entries_text entries

-- the text of a reply
abbrev pub reply_text : Reply → List ℕ
reply_text reply = status_text reply.status ++ given_text reply.given

-- the text of a `stat`
abbrev pub counts_text : Totals → List ℕ
counts_text counts =
    codes "objects " ++ decimal counts.objects ++ codes " handles " ++ decimal counts.handles ++ codes " opens " ++ decimal counts.opens
    ++ codes " closes " ++ decimal counts.closes ++ codes " deletes " ++ decimal counts.deletes
