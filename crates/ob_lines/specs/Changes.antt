-- Changes: which variables of a script the reply to a request changes.
--
-- Source: this profile.
use Rattle.std.specs.Prelude.{ℕ, List}
use Rattle.std.specs.Borrow.{Bor}
use Rattle.ob_lines.specs.declared.change.Change.{Change}
use Rattle.ob_lines.specs.declared.change.Change.TheVariants.{Nothing, Sets, SetsFor, GivesUp, TurnsPage, GivesAllUp, SetsProcess}
use Rattle.ob_lines.specs.declared.request.Request.{Request}
use Rattle.ob_lines.specs.declared.request.Request.TheVariants.{CreateDirectory, CreateShadowed, CreateLink, CreateObject, OpenDirectory, OpenLink, OpenObject, Close, QueryLink, QueryName, QueryDirectory, Duplicate, MakeTemporary, MakePermanent, SetDeviceMap, NewProcess, ExitProcess}

-- the variables that the reply to a request changes
abbrev pub change_of : Request (List ℕ) → Change (List ℕ)
change_of (CreateDirectory place attrs variable) = Sets variable
change_of (CreateShadowed shadow place attrs variable) = Sets variable
change_of (CreateLink place attrs target variable) = Sets variable
change_of (CreateObject kind place attrs args variable) = Sets variable
change_of (OpenDirectory name attrs variable) = Sets variable
change_of (OpenLink name attrs variable) = Sets variable
change_of (OpenObject want name attrs variable) = Sets variable
change_of (Close handle) = GivesUp handle.variable
change_of (QueryLink handle) = Nothing
change_of (QueryName handle) = Nothing
change_of (QueryDirectory handle room mode) = TurnsPage handle.variable
change_of (Duplicate handle to inherit variable) = SetsFor to variable
change_of (MakeTemporary handle) = Nothing
change_of (MakePermanent handle) = Nothing
change_of (SetDeviceMap handle) = Nothing
change_of (NewProcess inherit child) = SetsProcess child inherit
change_of ExitProcess = GivesAllUp

-- a change, whose slices of bytes are seen as the lists that they hold
abbrev pub change_seen : Change (Bor (List ℕ)) → Change (List ℕ)
change_seen Nothing = Nothing
change_seen (Sets variable) = Sets variable.now
change_seen (SetsFor process variable) = SetsFor process.now variable.now
change_seen (GivesUp variable) = GivesUp variable.now
change_seen (TurnsPage variable) = TurnsPage variable.now
change_seen GivesAllUp = GivesAllUp
change_seen (SetsProcess process inherit) = SetsProcess process.now inherit
