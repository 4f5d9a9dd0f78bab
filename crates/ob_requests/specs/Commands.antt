-- Commands: what a request asks of the namespace, and the variables after its reply.
--
-- Source: this profile.
use Rattle.std.specs.Prelude.{◌≡◌, ℕ, ◌+◌, min, List, Bool, true, false, Option, None, Some, if◌then◌else◌}
use Rattle.std.specs.Option.{option_map}
use Rattle.either.specs.declared.Either.TheVariants.{Left, Right}
use Rattle.ob_base.specs.declared.status.Status.{Status}
use Rattle.ob_base.specs.declared.status.Status.TheVariants.{Success}
use Rattle.ob_model.specs.declared.command.Command.{Command}
use Rattle.ob_model.specs.declared.command.Command.TheVariants as command
use Rattle.ob_model.specs.declared.command.Place.{Place}
use Rattle.ob_model.specs.declared.command.Place.TheVariants as place
use Rattle.ob_model.specs.declared.reply.Given.{Given}
use Rattle.ob_model.specs.declared.reply.Given.TheVariants as given
use Rattle.ob_model.specs.declared.reply.Reply.{Reply}
use Rattle.ob_plain.specs.declared.plain.PlainKind.TheVariants as plain
use Rattle.ob_device.specs.declared.device.DeviceKind.TheVariants as device
use Rattle.ob_key.specs.declared.key.KeyKind.TheVariants as key
use Rattle.ob_standard.specs.Standard.{StandardKind}
use Rattle.ob_parts.specs.declared.handle.HandleForm.{HandleForm}
use Rattle.ob_parts.specs.declared.kind.KindForm.{KindForm}
use Rattle.ob_parts.specs.declared.kind.KindForm.TheVariants.{Event, Mutant, Section, Device, File, Key}
use Rattle.ob_parts.specs.declared.name.NameForm.{NameForm}
use Rattle.ob_parts.specs.declared.name.NameForm.TheVariants.{Absolute, Relative}
use Rattle.ob_parts.specs.declared.name.PlaceForm.{PlaceForm}
use Rattle.ob_parts.specs.declared.name.PlaceForm.TheVariants.{Named, Unnamed}
use Rattle.ob_lines.specs.declared.request.Request.{Request}
use Rattle.ob_lines.specs.declared.request.Request.TheVariants.{CreateDirectory, CreateShadowed, CreateLink, CreateObject, OpenDirectory, OpenLink, OpenObject, Close, QueryLink, QueryName, QueryDirectory, Duplicate, MakeTemporary, MakePermanent, SetDeviceMap, NewProcess, ExitProcess}
use Rattle.ob_parts.specs.Text.{Spells}
use Rattle.ob_parts.specs.Pages.{is_first, is_single}
use Rattle.ob_parts.specs.Parts.{offset_value, text_of}
use Rattle.ob_lines.specs.declared.change.Change.{Change}
use Rattle.ob_lines.specs.declared.change.Change.TheVariants as change
use Rattle.ob_lines.specs.Changes.{change_of}
use Rattle.ob_requests.specs.Variables.{Variables, with_process, with_variables, with_variable, without_variables, with_context, handed_on}

-- the kind of the standard set that a line names
abbrev pub kind_meant : KindForm → StandardKind
kind_meant Event = Left plain.Event
kind_meant Mutant = Left plain.Mutant
kind_meant Section = Left plain.Section
kind_meant Device = Right (Left device.Device)
kind_meant File = Right (Left device.File)
kind_meant Key = Right (Right key.Key)

-- the greatest number that a handle is named by
abbrev pub greatest_named : ℕ
greatest_named = 4294967295

-- the handle that is meant, with these values of its process's variables: the variable's value and what is added to
-- it. A sum past the greatest number would be that number; in a run there is none (`Offsets`).
abbrev pub handle_meant : HandleForm (List ℕ) → (List ℕ → ℕ) → ℕ
handle_meant handle values = min (values handle.variable + offset_value handle.offset) greatest_named

-- the handle that a name is relative to, with these values of its process's variables; an absolute name has
-- none
abbrev pub root_of : NameForm (List ℕ) → (List ℕ → ℕ) → Option ℕ
root_of (Absolute text) values = None
root_of (Relative root text) values = Some (handle_meant root values)

-- the place that is meant, with these values: the name that a text spells, by its root handle, or nowhere
abbrev pub IsPlace : PlaceForm (List ℕ) → (List ℕ → ℕ) → Place → Type 0
IsPlace (Named name) values where_to = (bytes : List ℕ) × Spells (text_of name) bytes × (where_to ≡ place.At (root_of name values) bytes)
IsPlace Unnamed values where_to = where_to ≡ place.Unnamed

-- the creates, and the opens, that these parts of a line spell
abbrev pub IsCreateDirectory : PlaceForm (List ℕ) → ℕ → (List ℕ → ℕ) → Command StandardKind → Type 0
IsCreateDirectory place attrs values c = (where_to : Place) × IsPlace place values where_to × (c ≡ command.CreateDirectory where_to attrs)

abbrev pub IsCreateShadowed : HandleForm (List ℕ) → PlaceForm (List ℕ) → ℕ → (List ℕ → ℕ) → Command StandardKind → Type 0
IsCreateShadowed shadow place attrs values c =
    (where_to : Place) × IsPlace place values where_to × (c ≡ command.CreateShadowed where_to attrs (handle_meant shadow values))

abbrev pub IsCreateLink : PlaceForm (List ℕ) → ℕ → List ℕ → (List ℕ → ℕ) → Command StandardKind → Type 0
IsCreateLink place attrs target values c =
    (where_to : Place) × (bytes : List ℕ) × IsPlace place values where_to × Spells target bytes
    × (c ≡ command.CreateLink where_to attrs bytes)

abbrev pub IsCreateObject : KindForm → PlaceForm (List ℕ) → ℕ → List ℕ → (List ℕ → ℕ) → Command StandardKind → Type 0
IsCreateObject kind place attrs args values c =
    (where_to : Place) × (bytes : List ℕ) × IsPlace place values where_to × Spells args bytes
    × (c ≡ command.CreateObject where_to attrs (kind_meant kind) bytes)

abbrev pub IsOpenDirectory : NameForm (List ℕ) → ℕ → (List ℕ → ℕ) → Command StandardKind → Type 0
IsOpenDirectory name attrs values c =
    (bytes : List ℕ) × Spells (text_of name) bytes × (c ≡ command.OpenDirectory (root_of name values) bytes attrs)

abbrev pub IsOpenLink : NameForm (List ℕ) → ℕ → (List ℕ → ℕ) → Command StandardKind → Type 0
IsOpenLink name attrs values c =
    (bytes : List ℕ) × Spells (text_of name) bytes × (c ≡ command.OpenLink (root_of name values) bytes attrs)

abbrev pub IsOpenObject : Option KindForm → NameForm (List ℕ) → ℕ → (List ℕ → ℕ) → Command StandardKind → Type 0
IsOpenObject want name attrs values c =
    (bytes : List ℕ) × Spells (text_of name) bytes × (c ≡ command.OpenObject (root_of name values) bytes attrs (option_map kind_meant want))

-- the command that a request of a process spells, with these variables
abbrev pub IsCommand : Request (List ℕ) → Variables → ℕ → Command StandardKind → Type 0
IsCommand (CreateDirectory place attrs variable) variables process c = IsCreateDirectory place attrs (variables.values process) c
IsCommand (CreateShadowed shadow place attrs variable) variables process c = IsCreateShadowed shadow place attrs (variables.values process) c
IsCommand (CreateLink place attrs target variable) variables process c = IsCreateLink place attrs target (variables.values process) c
IsCommand (CreateObject kind place attrs args variable) variables process c = IsCreateObject kind place attrs args (variables.values process) c
IsCommand (OpenDirectory name attrs variable) variables process c = IsOpenDirectory name attrs (variables.values process) c
IsCommand (OpenLink name attrs variable) variables process c = IsOpenLink name attrs (variables.values process) c
IsCommand (OpenObject want name attrs variable) variables process c = IsOpenObject want name attrs (variables.values process) c
IsCommand (Close handle) variables process c = c ≡ command.Close (handle_meant handle (variables.values process))
IsCommand (QueryLink handle) variables process c = c ≡ command.QueryLink (handle_meant handle (variables.values process))
IsCommand (QueryName handle) variables process c = c ≡ command.QueryName (handle_meant handle (variables.values process))
IsCommand (QueryDirectory handle room mode) variables process c =
    c ≡ command.QueryDirectory (handle_meant handle (variables.values process)) (variables.contexts process handle.variable) room (is_single mode) (is_first mode)
IsCommand (Duplicate handle to inherit variable) variables process c =
    c ≡ command.Duplicate (handle_meant handle (variables.values process)) (variables.processes to) inherit
IsCommand (MakeTemporary handle) variables process c = c ≡ command.MakeTemporary (handle_meant handle (variables.values process))
IsCommand (MakePermanent handle) variables process c = c ≡ command.MakePermanent (handle_meant handle (variables.values process))
IsCommand (SetDeviceMap handle) variables process c = c ≡ command.SetDeviceMap (handle_meant handle (variables.values process))
IsCommand (NewProcess inherit child) variables process c = c ≡ command.NewProcess inherit
IsCommand ExitProcess variables process c = c ≡ command.ExitProcess

-- whether a status is SUCCESS
abbrev pub is_success : Status → Bool
is_success Success = true
is_success status = false

-- the value of a variable that is set: the handle that was given, or 0 where none was given
abbrev pub given_handle : Given → ℕ
given_handle given.Nothing = 0
given_handle (given.Handle handle) = handle
given_handle (given.Text text) = 0
given_handle (given.Process process values) = 0
given_handle (given.Page entries context) = 0

-- the process that a process variable is set to: the child that was given, or 0 where none was given
abbrev pub given_process : Given → ℕ
given_process given.Nothing = 0
given_process (given.Handle handle) = 0
given_process (given.Text text) = 0
given_process (given.Process process values) = process
given_process (given.Page entries context) = 0

-- the variables with a child, where the reply gives one: a process variable names it, and it has the variables of its
-- parent that are handed on to it; where none is given the process variable is 0
abbrev pub with_child : Variables → ℕ → List ℕ → Bool → Given → Variables
with_child variables parent variable inherit (given.Process process handles) =
    with_variables (with_process variables variable process) process (handed_on (variables.values parent) inherit handles)
with_child variables parent variable inherit given.Nothing = with_process variables variable 0
with_child variables parent variable inherit (given.Handle handle) = with_process variables variable 0
with_child variables parent variable inherit (given.Text text) = with_process variables variable 0
with_child variables parent variable inherit (given.Page entries context) = with_process variables variable 0

-- the variables with the context of a page that is given to a process, which is kept for this handle variable; anything else
-- that is given leaves the variables
abbrev pub with_page : Variables → ℕ → List ℕ → Given → Variables
with_page variables process variable given.Nothing = variables
with_page variables process variable (given.Handle handle) = variables
with_page variables process variable (given.Text text) = variables
with_page variables process variable (given.Process child handles) = variables
with_page variables process variable (given.Page entries context) = with_context variables process variable context

-- the variables after the reply to a process, which changes these of them
abbrev pub changed : Change (List ℕ) → ℕ → Reply → Variables → Variables
changed change.Nothing process reply variables = variables
changed (change.Sets variable) process reply variables = with_variable variables process variable (given_handle reply.given)
changed (change.SetsFor to variable) process reply variables = with_variable variables (variables.processes to) variable (given_handle reply.given)
changed (change.GivesUp variable) process reply variables = if is_success reply.status then with_variable variables process variable 0 else variables
changed (change.TurnsPage variable) process reply variables = with_page variables process variable reply.given
changed change.GivesAllUp process reply variables = if is_success reply.status then without_variables variables process else variables
changed (change.SetsProcess variable inherit) process reply variables = with_child variables process variable inherit reply.given

-- the same variables, but of a child that is given its process variable alone is set, and its own variables aren't
abbrev pub applied : Change (List ℕ) → ℕ → Reply → Variables → Variables
applied (change.SetsProcess variable inherit) process reply variables = with_process variables variable (given_process reply.given)
applied other process reply variables = changed other process reply variables

-- the variables with those of a child, where one is given: it has the variables of its parent that are handed on to it
abbrev pub with_own_variables : Variables → ℕ → Bool → Given → Variables
with_own_variables variables parent inherit (given.Process process handles) = with_variables variables process (handed_on (variables.values parent) inherit handles)
with_own_variables variables parent inherit given.Nothing = variables
with_own_variables variables parent inherit (given.Handle handle) = variables
with_own_variables variables parent inherit (given.Text text) = variables
with_own_variables variables parent inherit (given.Page entries context) = variables

-- the variables after the reply to a request of a process
abbrev pub variables_after : Request (List ℕ) → ℕ → Reply → Variables → Variables
variables_after request process reply variables = changed (change_of request) process reply variables
