-- The object of a handle, as a caller in C reads it: the number of its type, its user data, and its id.
--
-- Source: this profile.
use Rattle.std.specs.Prelude.{ℕ, ◌+◌, ◌%◌, ◌^◌}
use Rattle.ob_model.specs.declared.state.Body.{Body}
use Rattle.ob_model.specs.declared.state.Body.TheVariants.{Directory, Link, Other}
use Rattle.ob_host.specs.Kept.{Kept}
use Rattle.ob_host.specs.declared.object.HostObject.{HostObject}
use Rattle.ob_numbers.specs.Types.{directory_type, link_type, type_of_kind}

-- the number of what an object is
abbrev pub type_of_body : Body HostObject Kept → ℕ
type_of_body (Directory shadow) = directory_type
type_of_body (Link target) = link_type
type_of_body (Other face inner) = type_of_kind face.kind

-- the user data of what an object is: 0 of a directory and of a link
abbrev pub user_data_of_body : Body HostObject Kept → ℕ
user_data_of_body (Directory shadow) = 0
user_data_of_body (Link target) = 0
user_data_of_body (Other face inner) = face.user_data

-- the id of a directory or a link, by its number in the namespace: counted from 2^63, so that no object of the caller's has it
abbrev pub own_id : ℕ → ℕ
own_id object = (object + 2 ^ 63) % 2 ^ 64

-- the id of an object, by its number in the namespace and what it is: of one of the caller's the serial that its first open drew
abbrev pub id_of_body : ℕ → Body HostObject Kept → ℕ
id_of_body object (Directory shadow) = own_id object
id_of_body object (Link target) = own_id object
id_of_body object (Other face inner) = inner.serial
