-- Room for what a reply changes of the variables, made before the step.
--
-- Source: this profile.
use Rattle.std.specs.Prelude.{◌≡◌, ℕ, true, List}
use Rattle.ob_lines.specs.declared.change.Change.{Change}
use Rattle.ob_lines.specs.declared.change.Change.TheVariants as change
use Rattle.ob_lines.specs.declared.request.Request.{Request}
use Rattle.ob_lines.specs.Changes.{change_of}
use Rattle.ob_requests.specs.declared.variables.Variables.{Variables}
use Rattle.ob_requests.specs.Tables.{HasRoom, has_variable, variables_in}

-- there is room for the variables that a reply to a process changes; a child's own variables have none yet
abbrev pub HasRoomFor : Variables → ℕ → Change (List ℕ) → Type 0
HasRoomFor variables process change.Nothing = Unit {0}
HasRoomFor variables process (change.Sets variable) = HasRoom variables.handles process variable
HasRoomFor variables process (change.SetsFor to variable) = HasRoom variables.handles ((variables_in variables).processes to) variable
HasRoomFor variables process (change.GivesUp variable) = Unit {0}
HasRoomFor variables process (change.TurnsPage variable) = HasRoom variables.handles process variable
HasRoomFor variables process change.GivesAllUp = Unit {0}
HasRoomFor variables process (change.SetsProcess variable inherit) = has_variable variables.processes variable ≡ true

-- room is made for what is changed: where a variable is set, or the context of its page
abbrev pub NeedsRoom : Change (List ℕ) → Type 0
NeedsRoom change.Nothing = ⊥
NeedsRoom (change.Sets variable) = Unit {0}
NeedsRoom (change.SetsFor to variable) = Unit {0}
NeedsRoom (change.GivesUp variable) = ⊥
NeedsRoom (change.TurnsPage variable) = Unit {0}
NeedsRoom change.GivesAllUp = ⊥
NeedsRoom (change.SetsProcess variable inherit) = Unit {0}

-- A request takes memory before its command is started: for that room, or for the texts in it, which are those of
-- creates and opens.
abbrev pub Grows : Request (List ℕ) → Type 0
Grows request = NeedsRoom (change_of request)
