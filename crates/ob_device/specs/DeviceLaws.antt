-- The laws of devices and files.
use Rattle.std.proofs.Common.{◌≡◌, ◌≢◌, ℕ, ◌<◌, Bool, true, false, if◌then◌else◌, List, [], ◌∷◌, length, refl, ap, arith}
use Rattle.std.specs.Cmp.Lexicographic.{bytes_decides, pointwise_decides}
use Rattle.ob_model.specs.Procedures.{Itself, Front, Refused, FrontIsUsed, ItselfIsAtEnd, ParsedIsIdle, OwnFaceIsSame, SameFacesAnswerAlike}
use Rattle.ob_plain.specs.Arguments.{same_path, without_separator}
use Rattle.ob_device.specs.Paths.{has_path, same_tables}
use Rattle.ob_plain.specs.Handles.{unopened, IsIdle}
use Rattle.ob_device.specs.Device.{device_procedures, device_answer, answer_to}
use Rattle.ob_device.specs.declared.device.DeviceFace.{DeviceFace}
use Rattle.ob_device.specs.declared.device.DeviceFace.TheVariants as faces

-- a table that is found the same is the same, and each is found the same as itself
tables_are_one : (a b : List (List ℕ)) → same_tables a b ≡ true → a ≡ b
tables_are_one a b e = (pointwise_decides bytes_decides a b).0 e

table_is_same : (table : List (List ℕ)) → same_tables table table ≡ true
table_is_same table = (pointwise_decides bytes_decides table table).1 refl

path_is_same : (path : List ℕ) → same_path path path ≡ true
path_is_same path = (bytes_decides path path).1 refl

pub device_own_face : OwnFaceIsSame device_procedures
device_own_face (faces.Device table) = table_is_same table
device_own_face (faces.File path) = path_is_same path

pub device_same_answers : SameFacesAnswerAlike device_procedures
device_same_answers (faces.Device a) (faces.Device b) rest e = ap (λ table. device_answer table rest) (tables_are_one a b e)
device_same_answers (faces.Device a) (faces.File b) rest e = cc
device_same_answers (faces.File a) (faces.Device b) rest e = cc
device_same_answers (faces.File a) (faces.File b) rest e = refl

-- where a device answers with a front, that is the whole rest, and leads to an object that no handle is open to
whole_front : (there : Bool) (n used inner : ℕ) (file next : DeviceFace) → (if there then Front n file unopened else Refused 3) ≡ Front used next inner → (used ≡ n) × (inner ≡ unopened)
whole_front true n used inner file next e = (cc, cc)
whole_front false n used inner file next e = cc

not_itself : (there : Bool) (n : ℕ) (file : DeviceFace) → (if there then Front n file unopened else Refused 3) ≢ Itself
not_itself true n file e = cc
not_itself false n file e = cc

whole : (face next : DeviceFace) (rest : List ℕ) (used inner : ℕ) → answer_to face rest ≡ Front used next inner → (used ≡ length rest) × (inner ≡ unopened)
whole (faces.Device table) next [] used inner e = (cc, cc)
whole (faces.Device table) next (b ∷ bs) used inner e = whole_front (has_path table (without_separator (b ∷ bs))) (length (b ∷ bs)) used inner (faces.File (without_separator (b ∷ bs))) next e
whole (faces.File path) next rest used inner e = cc

some_bytes : (rest : List ℕ) → rest ≢ [] → 0 < length rest
some_bytes [] n = absurd (n refl)
some_bytes (b ∷ bs) n = omega arith

pub device_front : FrontIsUsed device_procedures
device_front face next rest used inner e =
    let all = (whole face next rest used inner e).0 in
    record {
      within = omega (arith, all);
      some_bytes = λ n. let some = some_bytes rest n in omega (arith, all, some);
      onward = λ l. absurd (omega (arith, all, l));
    }

pub device_parsed_idle : ParsedIsIdle device_procedures IsIdle
device_parsed_idle face next rest used inner e = (whole face next rest used inner e).1

pub device_itself : ItselfIsAtEnd device_procedures
device_itself (faces.Device table) [] e = refl
device_itself (faces.Device table) (b ∷ bs) e = absurd (not_itself (has_path table (without_separator (b ∷ bs))) (length (b ∷ bs)) (faces.File (without_separator (b ∷ bs))) e)
device_itself (faces.File path) rest e = cc
