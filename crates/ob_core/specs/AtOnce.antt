-- The commands that are answered at once.
--
-- Source: this profile.
use Rattle.ob_model.specs.declared.command.Command.{Command}
use Rattle.ob_model.specs.declared.command.Command.TheVariants.{CreateDirectory, CreateShadowed, CreateLink, CreateObject, OpenDirectory, OpenLink, OpenObject, Close, QueryLink, QueryName, QueryDirectory, Duplicate, MakeTemporary, MakePermanent, SetDeviceMap, NewProcess, ExitProcess}

-- a command is no open by name, so its step ends with a reply and waits for no parse
abbrev pub IsNoOpen : {K : Type 0} → Command K → Type 0
IsNoOpen (CreateDirectory where_to attrs) = Unit {0}
IsNoOpen (CreateShadowed where_to attrs shadow) = Unit {0}
IsNoOpen (CreateLink where_to attrs target) = Unit {0}
IsNoOpen (CreateObject where_to attrs kind args) = Unit {0}
IsNoOpen (OpenDirectory root name attrs) = ⊥
IsNoOpen (OpenLink root name attrs) = ⊥
IsNoOpen (OpenObject root name attrs want) = ⊥
IsNoOpen (Close handle) = Unit {0}
IsNoOpen (QueryLink handle) = Unit {0}
IsNoOpen (QueryName handle) = Unit {0}
IsNoOpen (QueryDirectory handle context room single restart) = Unit {0}
IsNoOpen (Duplicate handle to inherit) = Unit {0}
IsNoOpen (MakeTemporary handle) = Unit {0}
IsNoOpen (MakePermanent handle) = Unit {0}
IsNoOpen (SetDeviceMap handle) = Unit {0}
IsNoOpen (NewProcess inherit) = Unit {0}
IsNoOpen ExitProcess = Unit {0}
