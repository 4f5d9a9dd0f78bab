-- The procedures of devices and files.
--
-- Sources: Windows Internals, Object Manager (object types and their methods), for the types' names and that
-- a device parses; the arguments, the paths and the refusals' numbers are this profile.
use Rattle.std.specs.Prelude.{ℕ, Bool, ◌||◌, not, true, false, if◌then◌else◌, List, [], ◌∷◌, Option, None, Some, codes, length}
use Rattle.ob_model.specs.Procedures.{Procedures, ParseAnswer, Front, Refused}
use Rattle.ob_plain.specs.Arguments.{is_readable, pieces, same_path, without_separator}
use Rattle.ob_plain.specs.Handles.{unopened, one_more}
use Rattle.ob_device.specs.Paths.{has_path, has_empty_path, same_tables}
use Rattle.ob_device.specs.declared.device.DeviceSet.{DeviceSet}
use Rattle.ob_device.specs.declared.device.DeviceKind.{DeviceKind}
use Rattle.ob_device.specs.declared.device.DeviceKind.TheVariants.{Device, File}
use Rattle.ob_device.specs.declared.device.DeviceFace.{DeviceFace}
use Rattle.ob_device.specs.declared.device.DeviceFace.TheVariants as faces

-- the name of the kind's type
abbrev pub name_of : DeviceKind → List ℕ
name_of Device = codes "Device"
name_of File = codes "File"

-- the kind of an object with this face
abbrev pub kind_of : DeviceFace → DeviceKind
kind_of (faces.Device _) = Device
kind_of (faces.File _) = File

-- two kinds are one
abbrev pub same_device_kind : DeviceKind → DeviceKind → Bool
same_device_kind Device b = elim b [ Device ↦ true | File ↦ false ]
same_device_kind File b = elim b [ Device ↦ false | File ↦ true ]

-- a device parses, and a file doesn't
abbrev pub does_parse : DeviceKind → Bool
does_parse Device = true
does_parse File = false

-- two faces are of one object: devices with one table, or files with one path
abbrev pub same_device_face : DeviceFace → DeviceFace → Bool
same_device_face (faces.Device table) b = elim b [ faces.Device other ↦ same_tables table other | faces.File _ ↦ false ]
same_device_face (faces.File path) b = elim b [ faces.Device _ ↦ false | faces.File other ↦ same_path path other ]

-- making refuses: a device where the arguments can't be read or have an empty path, a file always
abbrev pub refuses_arguments : DeviceKind → List ℕ → Option ℕ
refuses_arguments Device args = if not (is_readable args) || has_empty_path (pieces args) then Some 1 else None
refuses_arguments File args = Some 5

-- what a device with this table answers to a rest: the whole of it leads to a file
abbrev pub device_answer : List (List ℕ) → List ℕ → ParseAnswer DeviceFace ℕ
device_answer table [] = Front 0 (faces.File []) unopened
device_answer table (b ∷ bs) =
    if has_path table (without_separator (b ∷ bs)) then Front (length (b ∷ bs)) (faces.File (without_separator (b ∷ bs))) unopened else Refused 3

-- what an object with this face answers to a rest; a file doesn't parse, and refuses each
abbrev pub answer_to : DeviceFace → List ℕ → ParseAnswer DeviceFace ℕ
answer_to (faces.Device table) rest = device_answer table rest
answer_to (faces.File path) rest = Refused 3

-- what each procedure means; the inner value is the number of handles
abbrev pub device_procedures : Procedures DeviceKind DeviceSet DeviceFace ℕ
device_procedures = record {
  type_name = name_of;
  kind_of = kind_of;
  same_kind = same_device_kind;
  parses = does_parse;
  same_face = same_device_face;
  refuses_to_make = refuses_arguments;
  made = λ _ args. (faces.Device (pieces args), unopened);
  parsed = answer_to;
  refuses_to_open = λ _ _ _. None;
  opened = λ set handles _. (set, one_more handles);
  closed = λ set _ _ system_left. (set, system_left);
  deleted = λ set _. set;
}
