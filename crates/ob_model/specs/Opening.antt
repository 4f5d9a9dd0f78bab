-- The opening state, in which every run begins.
--
-- Sources: Windows Internals, Object Manager, for the directories' names and `\DosDevices` as a link
-- to `\??`; their numbers and stamps, and what is left out, are this profile.
use Rattle.std.specs.Prelude.{ℕ, true, false, List, [], ◌∷◌, None, codes}
use Rattle.ob_model.specs.declared.state.Body.{Body}
use Rattle.ob_model.specs.declared.state.Body.TheVariants.{Directory, Link}
use Rattle.ob_model.specs.declared.state.Object.{Object}
use Rattle.ob_model.specs.declared.state.Row.{Row}
use Rattle.ob_model.specs.State.{State, root_id}

-- an object of the opening state: permanent, and not exclusive
abbrev pub standing : {F I : Type 0} → ℕ → Body F I → Object F I
standing o body = record { id = o; body = body; permanent = true; exclusive = false }

-- a row of the opening state: it is in the root directory
abbrev pub root_row : ℕ → List ℕ → ℕ → Row
root_row stamp name o = record { stamp = stamp; directory = root_id; name = name; object = o }

-- the root, `\GLOBAL??`, `\DosDevices` (a link to `\??`), `\Device`, `\BaseNamedObjects` and
-- `\Sessions`, all permanent, and no directory with a shadow; process 1, without a map; no handle
abbrev pub opening : {K T F I : Type 0} → T → State K T F I
opening set = record {
  objects = standing 1 (Directory None) ∷ standing 2 (Directory None) ∷ standing 3 (Link (codes "\\??")) ∷ standing 4 (Directory None) ∷ standing 5 (Directory None) ∷ standing 6 (Directory None) ∷ [];
  rows = root_row 1 (codes "GLOBAL??") 2 ∷ root_row 2 (codes "DosDevices") 3 ∷ root_row 3 (codes "Device") 4 ∷ root_row 4 (codes "BaseNamedObjects") 5 ∷ root_row 5 (codes "Sessions") 6 ∷ [];
  handles = [];
  processes = record { number = 1; map = None } ∷ [];
  pending = [];
  set = set;
  next_id = 7;
  next_stamp = 6;
  next_process = 2;
  next_order = 1;
}
