-- The commands that are opens by name.
--
-- Source: Windows Internals, Object Manager (parse methods).
use Rattle.std.specs.Prelude.{Bool, true, false}
use Rattle.ob_model.specs.declared.command.Command.{Command}
use Rattle.ob_model.specs.declared.command.Command.TheVariants.{CreateDirectory, CreateShadowed, CreateLink, CreateObject, OpenDirectory, OpenLink, OpenObject, Close, QueryLink, QueryName, QueryDirectory, Duplicate, MakeTemporary, MakePermanent, SetDeviceMap, NewProcess, ExitProcess}

-- a command is an open, which may wait for parses
abbrev pub is_open : {K : Type 0} → Command K → Bool
is_open (CreateDirectory where_to attrs) = false
is_open (CreateShadowed where_to attrs shadow) = false
is_open (CreateLink where_to attrs target) = false
is_open (CreateObject where_to attrs kind args) = false
is_open (OpenDirectory root name attrs) = true
is_open (OpenLink root name attrs) = true
is_open (OpenObject root name attrs want) = true
is_open (Close handle) = false
is_open (QueryLink handle) = false
is_open (QueryName handle) = false
is_open (QueryDirectory handle context room single restart) = false
is_open (Duplicate handle to inherit) = false
is_open (MakeTemporary handle) = false
is_open (MakePermanent handle) = false
is_open (SetDeviceMap handle) = false
is_open (NewProcess inherit) = false
is_open ExitProcess = false
