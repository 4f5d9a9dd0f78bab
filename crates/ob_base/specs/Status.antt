-- Statuses: the number and the word of each, and the laws that these differ from status to status.
-- Source: the Windows Driver Kit's "NTSTATUS values", and from ReparseLimit on this profile.
use Rattle.std.specs.Prelude.{◌≡◌, ◌+◌, ℕ, List, codes}
use Rattle.ob_base.specs.declared.status.Status.{Status}
use Rattle.ob_base.specs.declared.status.Status.TheVariants.{
  Success,
  MoreEntries,
  ObjectNameExists,
  NoMoreEntries,
  InvalidHandle,
  InvalidParameter,
  NoMemory,
  AccessDenied,
  BufferTooSmall,
  ObjectTypeMismatch,
  ObjectNameInvalid,
  ObjectNameNotFound,
  ObjectNameCollision,
  ObjectPathNotFound,
  ObjectPathSyntaxBad,
  InsufficientResources,
  NameTooLong,
  ReparseLimit,
  ProcessGone,
  JournalFull,
  TypeRefused,
}

-- the number of a status, an NTSTATUS value or one of this profile's with bit 29 set
abbrev pub code_of : Status → ℕ
code_of Success = 0x00000000
code_of MoreEntries = 0x00000105
code_of ObjectNameExists = 0x40000000
code_of NoMoreEntries = 0x8000001A
code_of InvalidHandle = 0xC0000008
code_of InvalidParameter = 0xC000000D
code_of NoMemory = 0xC0000017
code_of AccessDenied = 0xC0000022
code_of BufferTooSmall = 0xC0000023
code_of ObjectTypeMismatch = 0xC0000024
code_of ObjectNameInvalid = 0xC0000033
code_of ObjectNameNotFound = 0xC0000034
code_of ObjectNameCollision = 0xC0000035
code_of ObjectPathNotFound = 0xC000003A
code_of ObjectPathSyntaxBad = 0xC000003B
code_of InsufficientResources = 0xC000009A
code_of NameTooLong = 0xC0000106
code_of ReparseLimit = 0xE0000001
code_of ProcessGone = 0xE0000002
code_of JournalFull = 0xE0000003
code_of (TypeRefused number) = 0xE0010000 + number

-- the word of a status as bytes of ASCII, without the own number of a type's refusal
abbrev pub text_of : Status → List ℕ
text_of Success = codes "SUCCESS"
text_of MoreEntries = codes "MORE_ENTRIES"
text_of ObjectNameExists = codes "OBJECT_NAME_EXISTS"
text_of NoMoreEntries = codes "NO_MORE_ENTRIES"
text_of InvalidHandle = codes "INVALID_HANDLE"
text_of InvalidParameter = codes "INVALID_PARAMETER"
text_of NoMemory = codes "NO_MEMORY"
text_of AccessDenied = codes "ACCESS_DENIED"
text_of BufferTooSmall = codes "BUFFER_TOO_SMALL"
text_of ObjectTypeMismatch = codes "OBJECT_TYPE_MISMATCH"
text_of ObjectNameInvalid = codes "OBJECT_NAME_INVALID"
text_of ObjectNameNotFound = codes "OBJECT_NAME_NOT_FOUND"
text_of ObjectNameCollision = codes "OBJECT_NAME_COLLISION"
text_of ObjectPathNotFound = codes "OBJECT_PATH_NOT_FOUND"
text_of ObjectPathSyntaxBad = codes "OBJECT_PATH_SYNTAX_BAD"
text_of InsufficientResources = codes "INSUFFICIENT_RESOURCES"
text_of NameTooLong = codes "NAME_TOO_LONG"
text_of ReparseLimit = codes "REPARSE_LIMIT"
text_of ProcessGone = codes "PROCESS_GONE"
text_of JournalFull = codes "JOURNAL_FULL"
text_of (TypeRefused number) = codes "TYPE_REFUSED"

-- the status, with 0 in place of the own number of a type's refusal
abbrev pub without_number : Status → Status
without_number (TypeRefused number) = TypeRefused 0
without_number status = status

-- statuses with one number are one status, for own numbers of a type below 2^16 and any others
abbrev pub CodesTellStatuses : Type 0
CodesTellStatuses = (a b : Status) → code_of a ≡ code_of b → a ≡ b

-- statuses with one word are one status, except for the own number of a type's refusal
abbrev pub TextsTellStatuses : Type 0
TextsTellStatuses = (a b : Status) → text_of a ≡ text_of b → without_number a ≡ without_number b
