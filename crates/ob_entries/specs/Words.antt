-- The words of a journal's operations, and of what became of a parse.
--
-- Source: this profile.
use Rattle.std.specs.Prelude.{ℕ, List, [], ◌∷◌, Option, find, codes, bytes_eq}
use Rattle.ob_model.specs.declared.reply.ParseRun.{ParseRun}
use Rattle.ob_model.specs.declared.reply.ParseRun.TheVariants.{Unrun, Ran, NoMemory}
use Rattle.ob_entries.specs.Lines.{parse_word}
use Rattle.ob_entries.specs.declared.words.Operation.{Operation}
use Rattle.ob_entries.specs.declared.words.Operation.TheVariants.{Directory, Shadow, Link, Make, OpenDirectory, OpenLink, Open, Close, Temporary, Permanent, Target, Name, DeviceMap, Duplicate, Page, NewProcess, Exit, Resume, Abandon}

-- the word of an operation, as bytes of ASCII
abbrev pub operation_word : Operation → List ℕ
operation_word Directory = codes "dir"
operation_word Shadow = codes "shadow"
operation_word Link = codes "link"
operation_word Make = codes "make"
operation_word OpenDirectory = codes "opendir"
operation_word OpenLink = codes "openlink"
operation_word Open = codes "open"
operation_word Close = codes "close"
operation_word Temporary = codes "temp"
operation_word Permanent = codes "perm"
operation_word Target = codes "target"
operation_word Name = codes "name"
operation_word DeviceMap = codes "map"
operation_word Duplicate = codes "dup"
operation_word Page = codes "list"
operation_word NewProcess = codes "new"
operation_word Exit = codes "exit"
operation_word Resume = codes "resume"
operation_word Abandon = codes "abandon"

-- all operations
abbrev pub operations : List Operation
operations =
    Directory ∷ Shadow ∷ Link ∷ Make ∷ OpenDirectory ∷ OpenLink ∷ Open ∷ Close ∷ Temporary ∷ Permanent ∷ Target ∷ Name ∷ DeviceMap ∷ Duplicate ∷ Page ∷ NewProcess ∷ Exit ∷ Resume ∷ Abandon ∷ []

-- the operation that a word means
abbrev pub operation_for : List ℕ → Option Operation
operation_for word = find (λ operation. bytes_eq word (operation_word operation)) operations

-- what a word says of what became of a parse
abbrev pub parse_for : List ℕ → Option ParseRun
parse_for word = find (λ parse. bytes_eq word (parse_word parse)) (Unrun ∷ Ran ∷ NoMemory ∷ [])
