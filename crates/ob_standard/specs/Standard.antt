-- The standard set of types: the plain types, devices with their files, and keys, counted.
--
-- Source: this profile.
use Rattle.std.specs.Prelude.{◌≡◌, ℕ}
use Rattle.either.specs.declared.Either.{Either}
use Rattle.ob_model.specs.Procedures.{Procedures}
use Rattle.ob_types.specs.declared.both.Both.{Both}
use Rattle.ob_types.specs.Both.{both_procedures}
use Rattle.ob_plain.specs.declared.plain.Plain.{Plain}
use Rattle.ob_plain.specs.declared.plain.PlainKind.{PlainKind}
use Rattle.ob_plain.specs.declared.plain.PlainFace.{PlainFace}
use Rattle.ob_plain.specs.declared.plain.PlainInner.{PlainInner}
use Rattle.ob_plain.specs.declared.counting.Counting.{Counting}
use Rattle.ob_plain.specs.Plain.{plain_procedures}
use Rattle.ob_plain.specs.Counting.{counting_procedures, opens_of, closes_of, deletes_of}
use Rattle.ob_device.specs.declared.device.DeviceSet.{DeviceSet}
use Rattle.ob_device.specs.declared.device.DeviceKind.{DeviceKind}
use Rattle.ob_device.specs.declared.device.DeviceFace.{DeviceFace}
use Rattle.ob_device.specs.Device.{device_procedures}
use Rattle.ob_key.specs.declared.key.KeySet.{KeySet}
use Rattle.ob_key.specs.declared.key.KeyKind.{KeyKind}
use Rattle.ob_key.specs.Entries.{KeyPlace}
use Rattle.ob_key.specs.Key.{key_procedures}

-- the value of the standard set: the sets of its parts, counted
abbrev pub Standard : Type 0
Standard = Counting (Both Plain (Both DeviceSet KeySet))

-- the kinds: those of each part
abbrev pub StandardKind : Type 0
StandardKind = Either PlainKind (Either DeviceKind KeyKind)

-- what never changes of an object
abbrev pub StandardFace : Type 0
StandardFace = Either PlainFace (Either DeviceFace KeyPlace)

-- what the procedures change of an object: of a device, a file or a key the number of handles
abbrev pub StandardInner : Type 0
StandardInner = Either PlainInner (Either ℕ ℕ)

-- the procedures: those of the part that owns the kind, the face or the inner value, and each call is counted
abbrev pub standard : Procedures StandardKind Standard StandardFace StandardInner
standard = counting_procedures (both_procedures plain_procedures (both_procedures device_procedures key_procedures))

-- the standard set at first: nothing is counted
pub record IsFresh (set : Standard) : Type 0 where
  pub no_opens : opens_of set ≡ 0
  pub no_closes : closes_of set ≡ 0
  pub no_deletes : deletes_of set ≡ 0
