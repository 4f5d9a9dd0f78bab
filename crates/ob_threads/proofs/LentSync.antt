-- That what lends a shared namespace of the standard set to the seats of a script may be shared with threads.
use denote.Builtin.{unit}
use denote.RattleType.{RattleType}
use denote.Param.Send.{IsSend, IsSync, recorded_sync, struct_sync, shr_sync, plain_send}
use denote.Ref.{NamedLft}
use denote.Struct.Declared.{shape}
use Rattle.std.proofs.alloc.Global.TheSendSync as heap
use Rattle.std.specs.declared.cmp.PartialEq as PartialEq
use Rattle.std.specs.declared.sync.ledger.Ledger as Ledger
use Rattle.either.specs.contracts.Either as either
use Rattle.either.specs.contracts.EitherPartialEq.TheImpl as either_equal
use Rattle.either.proofs.Either.TheSendSync as eithers
use Rattle.ob_plain.specs.contracts.plain.PlainKind as plain_kind
use Rattle.ob_plain.specs.contracts.plain.PlainFace as plain_face
use Rattle.ob_plain.specs.contracts.plain.PlainInner as plain_inner
use Rattle.ob_plain.specs.contracts.handles.HandleCount as handle_count
use Rattle.ob_plain.specs.contracts.plain.PlainKindPartialEq.TheImpl as plain_equal
use Rattle.ob_plain.proofs.plain.PlainKind.TheSendSync as plain_kinds
use Rattle.ob_plain.proofs.plain.PlainFace.TheSendSync as plain_faces
use Rattle.ob_plain.proofs.plain.PlainInner.TheSendSync as plain_inners
use Rattle.ob_plain.proofs.handles.HandleCount.TheSendSync as handle_counts
use Rattle.ob_device.specs.contracts.device.DeviceKind as device_kind
use Rattle.ob_device.specs.contracts.device.DeviceFace as device_face
use Rattle.ob_device.specs.contracts.device.DeviceKindPartialEq.TheImpl as device_equal
use Rattle.ob_device.proofs.device.DeviceKind.TheSendSync as device_kinds
use Rattle.ob_device.proofs.device.DeviceFace.TheSendSync as device_faces
use Rattle.ob_key.specs.contracts.key.KeyKind as key_kind
use Rattle.ob_key.specs.contracts.face.KeyFace as key_face
use Rattle.ob_key.specs.contracts.key.KeyKindPartialEq.TheImpl as key_equal
use Rattle.ob_key.proofs.key.KeyKind.TheSendSync as key_kinds
use Rattle.ob_key.proofs.face.KeyFace.TheSendSync as key_faces
use Rattle.ob_standard.specs.contracts.set.Standard as standard
use Rattle.ob_standard.proofs.set.Standard.TheSendSync as standards
use Rattle.ob_handles.specs.contracts.slab_table.SlabTable as table
use Rattle.ob_handles.specs.contracts.slab_table.SlabTableHandleTable.TheImpl as handles
use Rattle.ob_handles.proofs.slab_table.SlabTable.TheSendSync as tables
use Rattle.std.specs.Prelude.{[]}
use Rattle.ob_published.specs.declared.publishing.Publishing as Publishing
use Rattle.ob_shared.proofs.Lent.{shared_sync}
use Rattle.ob_threads.specs.contracts.lent.Lent as lent

-- the types of the set's kinds, faces and inner values
abbrev kind : RattleType
kind = either.the_row plain_kind.the_row (either.the_row device_kind.the_row key_kind.the_row)

abbrev face : RattleType
face = either.the_row plain_face.the_row (either.the_row device_face.the_row key_face.the_row)

abbrev inner : RattleType
inner = either.the_row plain_inner.the_row (either.the_row handle_count.the_row handle_count.the_row)

kind_send : IsSend kind
kind_send = eithers.the_send plain_kind.the_row (either.the_row device_kind.the_row key_kind.the_row) plain_kinds.the_send
    (eithers.the_send device_kind.the_row key_kind.the_row device_kinds.the_send key_kinds.the_send)

kind_sync : IsSync kind
kind_sync = eithers.the_sync plain_kind.the_row (either.the_row device_kind.the_row key_kind.the_row) plain_kinds.the_sync
    (eithers.the_sync device_kind.the_row key_kind.the_row device_kinds.the_sync key_kinds.the_sync)

face_send : IsSend face
face_send = eithers.the_send plain_face.the_row (either.the_row device_face.the_row key_face.the_row) plain_faces.the_send
    (eithers.the_send device_face.the_row key_face.the_row device_faces.the_send key_faces.the_send)

face_sync : IsSync face
face_sync = eithers.the_sync plain_face.the_row (either.the_row device_face.the_row key_face.the_row) plain_faces.the_sync
    (eithers.the_sync device_face.the_row key_face.the_row device_faces.the_sync key_faces.the_sync)

inner_send : IsSend inner
inner_send = eithers.the_send plain_inner.the_row (either.the_row handle_count.the_row handle_count.the_row) plain_inners.the_send
    (eithers.the_send handle_count.the_row handle_count.the_row handle_counts.the_send handle_counts.the_send)

-- when two kinds are equal
abbrev equal : PartialEq.Ghosts kind.Denot
equal = either_equal.ghosts plain_kind.the_row (either.the_row device_kind.the_row key_kind.the_row) plain_equal.ghosts either_equal.no_dict
    (either_equal.ghosts device_kind.the_row key_kind.the_row device_equal.ghosts either_equal.no_dict key_equal.ghosts either_equal.no_dict) either_equal.no_dict

-- nothing is published
abbrev nothing : Publishing.Ghosts unit.Denot unit.Denot
nothing = record { publishes = ⊥; opening = []; leads = λ publications. Unit {0}; recorded = λ publisher. []; shown = λ publisher. []; known = λ published. [] }

module _ (a : NamedLft) (H L : RattleType) (l : Ledger.Ghosts L.Denot) where
  pub lent_sync : IsSync H → IsSync (lent.the_row a H L l)
  lent_sync runtime =
      recorded_sync (lent.the_field a H L l).row _ _ (lent.the_type a H L l).to_one
      (struct_sync (shape (lent.the_type a H L l)) (
        shr_sync _ _ _ (shared_sync standard.the_row table.the_row L unit kind face inner unit _ equal handles.ghosts l nothing standards.the_send tables.the_send (plain_send _ _ _ _ _) kind_send kind_sync face_send inner_send face_sync),
        (shr_sync _ _ _ runtime, (heap.the_field_sync, tt)),
      ))
