-- A command that is none of the three opens by name is no open.
use Rattle.std.proofs.Common.{◌≡◌, ℕ, List, refl}
use Rattle.std.specs.Prelude.{Option}
use Rattle.ob_model.specs.declared.command.Command.{Command}
use Rattle.ob_model.specs.declared.command.Command.TheVariants.{CreateDirectory, CreateShadowed, CreateLink, CreateObject, OpenDirectory, OpenLink, OpenObject, Close, QueryLink, QueryName, QueryDirectory, Duplicate, MakeTemporary, MakePermanent, SetDeviceMap, NewProcess, ExitProcess}
use Rattle.ob_core.specs.AtOnce.{IsNoOpen}

pub no_open : {K : Type 0} (command : Command K)
    → ((root : Option ℕ) (name : List ℕ) (attrs : ℕ) → command ≡ OpenDirectory root name attrs → ⊥)
    → ((root : Option ℕ) (name : List ℕ) (attrs : ℕ) → command ≡ OpenLink root name attrs → ⊥)
    → ((root : Option ℕ) (name : List ℕ) (attrs : ℕ) (want : Option K) → command ≡ OpenObject root name attrs want → ⊥) → IsNoOpen command
no_open (CreateDirectory where_to attrs) directory link object = tt
no_open (CreateShadowed where_to attrs shadow) directory link object = tt
no_open (CreateLink where_to attrs target) directory link object = tt
no_open (CreateObject where_to attrs kind args) directory link object = tt
no_open (OpenDirectory root name attrs) directory link object = directory root name attrs refl
no_open (OpenLink root name attrs) directory link object = link root name attrs refl
no_open (OpenObject root name attrs want) directory link object = object root name attrs want refl
no_open (Close handle) directory link object = tt
no_open (QueryLink handle) directory link object = tt
no_open (QueryName handle) directory link object = tt
no_open (QueryDirectory handle context room single restart) directory link object = tt
no_open (Duplicate handle to inherit) directory link object = tt
no_open (MakeTemporary handle) directory link object = tt
no_open (MakePermanent handle) directory link object = tt
no_open (SetDeviceMap handle) directory link object = tt
no_open (NewProcess inherit) directory link object = tt
no_open ExitProcess directory link object = tt
