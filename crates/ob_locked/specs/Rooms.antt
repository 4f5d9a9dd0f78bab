-- The parts of a reply whose copy takes memory.
--
-- Source: this profile.
use Rattle.std.specs.Prelude.{ℕ, Bool, true, false, List, []}
use Rattle.ob_model.specs.declared.command.Command.{Command}
use Rattle.ob_model.specs.declared.command.Command.TheVariants.{NewProcess}
use Rattle.ob_model.specs.declared.reply.Given.{Given}
use Rattle.ob_model.specs.declared.reply.Given.TheVariants.{Nothing, Handle, Text, Process, Page}

-- a copy needs memory: of a text, or of a page
abbrev pub wants_memory : Given → Bool
wants_memory Nothing = false
wants_memory (Handle handle) = false
wants_memory (Text text) = true
wants_memory (Process process values) = false
wants_memory (Page entries context) = true

-- the values that a child inherited, for which there is room already
abbrev pub values_given : Given → List ℕ
values_given Nothing = []
values_given (Handle handle) = []
values_given (Text text) = []
values_given (Process process values) = values
values_given (Page entries context) = []

-- how many values there may be: a child has no more handles than its parent
abbrev pub values_wanted : {K : Type 0} → ℕ → Command K → ℕ
values_wanted held (NewProcess inherit) = held
values_wanted held command = 0

-- a copy needs only its own place: nothing is given, or a handle
abbrev pub is_plain : Given → Bool
is_plain Nothing = true
is_plain (Handle handle) = true
is_plain (Text text) = false
is_plain (Process process values) = false
is_plain (Page entries context) = false
