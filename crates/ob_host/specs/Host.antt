-- The procedures of a caller's own objects.
--
-- Sources: Windows Internals, Object Manager (object types and their methods), for the types' names and that devices
-- and keys parse; user data, texts, serials and the list of the deletions are this profile.
use Rattle.std.specs.Prelude.{◌≡◌, ℕ, ◌+◌, ◌^◌, ◌-◌, Bool, true, false, ◌&&◌, ◌==◌, if◌then◌else◌, List, Option, None, Some, is_some, length, min}
use Rattle.ob_model.specs.Procedures.{Procedures, ParseAnswer, Itself, Front, Refused}
use Rattle.ob_host.specs.Deletions.{with_delete}
use Rattle.ob_host.specs.declared.deletion.HostDeletion.{HostDeletion}
use Rattle.ob_host.specs.Kept.{Kept}
use Rattle.ob_host.specs.Kinds.{name_of, same_kind}
use Rattle.ob_host.specs.Objects.{object_of, same_object, object_below}
use Rattle.ob_host.specs.declared.kind.Kind.{Kind}
use Rattle.ob_host.specs.declared.kind.Kind.TheVariants.{Device, File, Key}
use Rattle.ob_host.specs.declared.object.HostObject.{HostObject}
use Rattle.ob_host.specs.declared.set.HostSet.{HostSet}

-- the kind of what names lead to through an object of this kind: files through a device, keys through a key
abbrev pub kind_below : Kind → Option Kind
kind_below Device = Some File
kind_below Key = Some Key
kind_below _ = None

-- no handle is open
abbrev pub IsIdle : Kept → Type 0
IsIdle inner = inner.handles ≡ 0

-- the inner value of what was not opened yet, made by a parse or by a create
abbrev pub unopened : (parsed : Bool) → HostObject → Kept
unopened parsed object = record { object = object; handles = 0; serial = 0; parsed = parsed }

-- the next serial, stopping at the greatest u64
abbrev pub next_serial : ℕ → ℕ
next_serial last = min (last + 1) (2 ^ 64 - 1)

-- the serial of an object after an open: the next one at the first, and else its own
abbrev pub serial_after : (last serial : ℕ) → ℕ
serial_after last serial = if serial == 0 then next_serial last else serial

-- the last serial that was drawn, after that open
abbrev pub last_after : (last serial : ℕ) → ℕ
last_after last serial = if serial == 0 then next_serial last else last

-- what a delete leaves of an object
abbrev pub deletion_of : Kept → HostDeletion
deletion_of inner =
    record { kind = inner.object.kind; user_data = inner.object.user_data; text = inner.object.text; serial = inner.serial; parsed = inner.parsed }

-- one handle more, stopping at the greatest u32
abbrev pub one_more : Kept → Kept
one_more inner = record inner { handles = min (inner.handles + 1) (2 ^ 32 - 1) }

-- the rest names the object itself, where it leads to objects of this kind: the empty one, at a key
abbrev pub is_itself : Kind → List ℕ → Bool
is_itself kind rest = same_kind kind Key && length rest == 0

-- what an object answers to a rest that leads from it to objects of a kind: itself, or by the whole rest a new one
abbrev pub answer_below : HostObject → Option Kind → List ℕ → ParseAnswer HostObject Kept
answer_below object None rest = Refused 3
answer_below object (Some kind) rest =
    if is_itself kind rest then Itself else Front (length rest) (object_below object kind rest) (unopened true (object_below object kind rest))

-- what an object answers to a rest
abbrev pub answer_to : HostObject → List ℕ → ParseAnswer HostObject Kept
answer_to object rest = answer_below object (kind_below object.kind) rest

-- what each procedure means
abbrev pub host_procedures : Procedures Kind HostSet HostObject Kept
host_procedures = record {
  type_name = name_of;
  kind_of = λ object. object.kind;
  same_kind = same_kind;
  parses = λ kind. is_some (kind_below kind);
  same_face = same_object;
  refuses_to_make = λ _ _. None;
  made = λ kind args. (object_of kind args, unopened false (object_of kind args));
  parsed = answer_to;
  refuses_to_open = λ _ _ _. None;
  opened = λ set inner _. (record set { last = last_after set.last inner.serial }, record (one_more inner) { serial = serial_after set.last inner.serial });
  closed = λ set inner _ system_left. (set, record inner { handles = system_left });
  deleted = λ set inner. record set { deletions = with_delete set.deletions (deletion_of inner) };
}
