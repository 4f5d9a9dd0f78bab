-- The laws of the standard set, from those of its parts.
use Rattle.std.proofs.Common.{◌∙◌, refl, ap}
use Rattle.ob_model.specs.Procedures.{Procedures, RefusedOpenKeeps, MadeIsIdle, LastClosedIsIdle, FrontIsUsed, ItselfIsAtEnd, ParsedIsIdle, OwnFaceIsSame, SameFacesAnswerAlike, SameKindIsOne, OwnKindIsSame}
use Rattle.ob_types.specs.Both.{both_procedures, IsEitherIdle}
use Rattle.ob_types.specs.BothLaws.{both_refused_open, both_made_idle, both_closed_idle, both_one_kind, both_own_kind, both_front, both_itself, both_parsed_idle, both_own_face, both_same_answers}
use Rattle.ob_plain.specs.Plain.{plain_procedures, same_plain_kind, unless_told, one_more}
use Rattle.ob_plain.specs.Plain as plain
use Rattle.ob_plain.specs.Handles as handles
use Rattle.ob_plain.specs.declared.plain.PlainKind.TheVariants.{Event, Mutant, Section}
use Rattle.ob_plain.specs.Counting.{counting_procedures, counted}
use Rattle.ob_plain.specs.Fronts.{counted_front}
use Rattle.ob_device.specs.Device.{device_procedures}
use Rattle.ob_device.specs.DeviceLaws.{device_front, device_itself, device_parsed_idle, device_own_face, device_same_answers}
use Rattle.ob_device.specs.declared.device.DeviceKind.TheVariants.{Device, File}
use Rattle.ob_key.specs.Key.{key_procedures}
use Rattle.ob_key.specs.KeyLaws.{key_front, key_itself, key_parsed_idle, key_own_face, key_same_answers}
use Rattle.ob_key.specs.declared.key.KeyKind.TheVariants.{Key}
use Rattle.ob_standard.specs.Standard.{StandardInner, standard}

-- no handle is open
abbrev pub IsIdle : StandardInner → Type 0
IsIdle = IsEitherIdle plain.IsIdle (IsEitherIdle handles.IsIdle handles.IsIdle)

-- ---- laws of single parts

plain_refused : RefusedOpenKeeps plain_procedures
plain_refused set inner reason k told = ap (λ refusal. (set, unless_told refusal inner (one_more inner))) told

plain_front : FrontIsUsed plain_procedures
plain_front face next rest used inner told = cc

plain_itself : ItselfIsAtEnd plain_procedures
plain_itself face rest told = cc

plain_parsed_idle : ParsedIsIdle plain_procedures plain.IsIdle
plain_parsed_idle face next rest used inner told = cc

plain_one_kind : SameKindIsOne plain_procedures
plain_one_kind Event Event e = refl
plain_one_kind Event Mutant e = cc
plain_one_kind Event Section e = cc
plain_one_kind Mutant Event e = cc
plain_one_kind Mutant Mutant e = refl
plain_one_kind Mutant Section e = cc
plain_one_kind Section Event e = cc
plain_one_kind Section Mutant e = cc
plain_one_kind Section Section e = refl

plain_own_kind : OwnKindIsSame plain_procedures
plain_own_kind Event = refl
plain_own_kind Mutant = refl
plain_own_kind Section = refl

device_refused : RefusedOpenKeeps device_procedures
device_refused set inner reason k told = cc

device_one_kind : SameKindIsOne device_procedures
device_one_kind Device Device e = refl
device_one_kind Device File e = cc
device_one_kind File Device e = cc
device_one_kind File File e = refl

device_own_kind : OwnKindIsSame device_procedures
device_own_kind Device = refl
device_own_kind File = refl

key_refused : RefusedOpenKeeps key_procedures
key_refused set inner reason k told = cc

key_one_kind : SameKindIsOne key_procedures
key_one_kind Key Key e = refl

key_own_kind : OwnKindIsSame key_procedures
key_own_kind Key = refl

counted_refused : {K T F I : Type 0} (g : Procedures K T F I) → RefusedOpenKeeps g → RefusedOpenKeeps (counting_procedures g)
counted_refused g law counting inner reason k told =
    ap (λ left. (record counting { part = left.0; opens = unless_told (g.refuses_to_open counting.part inner reason) counting.opens (counted counting.opens) }, left.1)) (law counting.part inner reason k told)
    ∙ ap (λ refusal. (record counting { opens = unless_told refusal counting.opens (counted counting.opens) }, inner)) told

-- ---- those of the standard set

pub standard_refused_open : RefusedOpenKeeps standard
standard_refused_open =
    counted_refused (both_procedures plain_procedures (both_procedures device_procedures key_procedures))
    (both_refused_open plain_procedures (both_procedures device_procedures key_procedures) plain_refused (both_refused_open device_procedures key_procedures device_refused key_refused))

pub standard_made_idle : MadeIsIdle standard IsIdle
standard_made_idle =
    both_made_idle plain_procedures (both_procedures device_procedures key_procedures) plain.IsIdle (IsEitherIdle handles.IsIdle handles.IsIdle) (λ _ _ _. refl)
    (both_made_idle device_procedures key_procedures handles.IsIdle handles.IsIdle (λ _ _ _. refl) (λ _ _ _. refl))

pub standard_closed_idle : LastClosedIsIdle standard IsIdle
standard_closed_idle =
    λ counting. both_closed_idle plain_procedures (both_procedures device_procedures key_procedures) plain.IsIdle (IsEitherIdle handles.IsIdle handles.IsIdle) (λ _ _ _. refl)
    (both_closed_idle device_procedures key_procedures handles.IsIdle handles.IsIdle (λ _ _ _. refl) (λ _ _ _. refl)) counting.part

pub standard_front : FrontIsUsed standard
standard_front =
    counted_front (both_procedures plain_procedures (both_procedures device_procedures key_procedures))
    (both_front plain_procedures (both_procedures device_procedures key_procedures) plain_front (both_front device_procedures key_procedures device_front key_front))

pub standard_itself : ItselfIsAtEnd standard
standard_itself =
    both_itself plain_procedures (both_procedures device_procedures key_procedures) plain_itself (both_itself device_procedures key_procedures device_itself key_itself)

pub standard_parsed_idle : ParsedIsIdle standard IsIdle
standard_parsed_idle =
    both_parsed_idle plain_procedures (both_procedures device_procedures key_procedures) plain.IsIdle (IsEitherIdle handles.IsIdle handles.IsIdle) plain_parsed_idle
    (both_parsed_idle device_procedures key_procedures handles.IsIdle handles.IsIdle device_parsed_idle key_parsed_idle)

pub standard_own_face : OwnFaceIsSame standard
standard_own_face =
    both_own_face plain_procedures (both_procedures device_procedures key_procedures) (λ face. plain_own_kind face.kind) (both_own_face device_procedures key_procedures device_own_face key_own_face)

pub standard_same_answers : SameFacesAnswerAlike standard
standard_same_answers =
    both_same_answers plain_procedures (both_procedures device_procedures key_procedures) (λ _ _ _ _. refl) (both_same_answers device_procedures key_procedures device_same_answers key_same_answers)

pub standard_one_kind : SameKindIsOne standard
standard_one_kind =
    both_one_kind plain_procedures (both_procedures device_procedures key_procedures) plain_one_kind (both_one_kind device_procedures key_procedures device_one_kind key_one_kind)

pub standard_own_kind : OwnKindIsSame standard
standard_own_kind =
    both_own_kind plain_procedures (both_procedures device_procedures key_procedures) plain_own_kind (both_own_kind device_procedures key_procedures device_own_kind key_own_kind)
