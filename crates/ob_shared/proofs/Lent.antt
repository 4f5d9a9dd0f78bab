-- A shared namespace may be lent to threads, for any set of types, handle table, ledger and publisher. A check makes no such proof by itself, since the namespace under the lock keeps its first state as a snapshot.
--     locked_send      the state under the lock may go to another thread
--     guarded_send     so may it with the copy of its rows and its publisher
--     shared_sync      so threads may share the lock
--     captures_sync      threads may share a closure where they may share all that it captures; its name plays no part
use mathlib.Core.List.{List, [], ◌∷◌}
use denote.RattleType.{RattleType}
use denote.Struct.Declared.{shape}
use denote.Struct.Field.{rows}
use denote.Struct.Tuple.{TupleAt, type_at, field_at, parts}
use denote.Param.Send.{IsSend, IsSync, AllSync, view_send, view_sync, recorded_send, recorded_sync, struct_send, struct_sync, plain_send, plain_sync}
use Rattle.std.proofs.Crossing.{frees}
use Rattle.std.proofs.alloc.Global.TheSendSync as heap
use Rattle.std.proofs.sync.Mutex.TheSendSync as mutex
use Rattle.std.proofs.sync.ledger.Book.TheSendSync as book
use Rattle.std.proofs.vec.Vec.TheSendSync as vec
use Rattle.std.specs.contracts.alloc.Global as heap_row
use Rattle.std.specs.contracts.impls.GlobalAllocator.TheImpl as allocator
use Rattle.std.specs.contracts.snapshot.Snapshot as snapshot
use Rattle.std.specs.declared.cmp.PartialEq as PartialEq
use Rattle.std.specs.declared.sync.ledger.Ledger as Ledger
use Rattle.ob_types.specs.declared.set.TypeSet as TypeSet
use Rattle.ob_handles.specs.declared.table.HandleTable as HandleTable
use Rattle.ob_core.proofs.namespace.Core.TheSendSync as core
use Rattle.ob_segments.proofs.journal.Journal.TheSendSync as journal
use Rattle.ob_locked.specs.contracts.locked.Locked as locked
use Rattle.ob_locked.specs.contracts.locked.Locked.TheInside as locked_fields
use Rattle.ob_mirror.proofs.mirror.Mirror.TheSendSync as mirror
use Rattle.ob_published.specs.declared.publishing.Publishing as Publishing
use Rattle.ob_shared.specs.contracts.guarded.Guarded as guarded
use Rattle.ob_shared.specs.contracts.guarded.Guarded.TheInside as guarded_fields
use Rattle.ob_shared.specs.contracts.shared.Shared as shared
use Rattle.ob_shared.specs.contracts.shared.Shared.TheInside as shared_fields

-- a snapshot owns nothing
snapshot_send : (T : RattleType) → IsSend (snapshot.the_row T)
snapshot_send T = record { owned = λ d vs. ((λ vss. (tt, ((λ uss. (tt, tt)), tt))), tt); leaving = λ k f vs. tt }

module _ (T H L P K F I U : RattleType) (t : TypeSet.Ghosts T.Denot K.Denot F.Denot I.Denot) (k : PartialEq.Ghosts K.Denot) (h : HandleTable.Ghosts H.Denot) (l : Ledger.Ghosts L.Denot) (p : Publishing.Ghosts P.Denot U.Denot) where
  pub locked_send : IsSend T → IsSend H → IsSend K → IsSync K → IsSend F → IsSend I → IsSync F → IsSend (locked.the_row T H L K F I t k h l)
  locked_send set table kind kinds face inner faces =
      view_send (locked_fields.the_row T H L K F I t k h l) _ _ _ _
      (recorded_send (locked_fields.the_field T H L K F I t k h l).row _ _ (locked_fields.the_type T H L K F I t k h l).to_one
      (struct_send (shape (locked_fields.the_type T H L K F I t k h l)) (
        core.the_send T H K F I t k h set table kind face inner faces,
        (
          journal.the_send K kind kinds,
          (plain_send _ _ _ _ _, (book.the_send L l, (snapshot_send T, tt))),
        ),
      )))

  pub guarded_send : IsSend T → IsSend H → IsSend P → IsSend K → IsSync K → IsSend F → IsSend I → IsSync F → IsSend (guarded.the_row T H L P K F I U t k h l p)
  guarded_send set table publisher kind kinds face inner faces =
      view_send (guarded_fields.the_row T H L P K F I U t k h l p) _ _ _ _
      (recorded_send (guarded_fields.the_field T H L P K F I U t k h l p).row _ _ (guarded_fields.the_type T H L P K F I U t k h l p).to_one
      (struct_send (shape (guarded_fields.the_type T H L P K F I U t k h l p)) (locked_send set table kind kinds face inner faces, (mirror.the_send, (publisher, tt)))))

  pub shared_sync : IsSend T → IsSend H → IsSend P → IsSend K → IsSync K → IsSend F → IsSend I → IsSync F → IsSync (shared.the_row T H L P K F I U t k h l p)
  shared_sync set table publisher kind kinds face inner faces =
      view_sync (shared_fields.the_row T H L P K F I U t k h l p) _ _ _ _
      (recorded_sync (shared_fields.the_field T H L P K F I U t k h l p).row _ _ (shared_fields.the_type T H L P K F I U t k h l p).to_one
      (struct_sync (shape (shared_fields.the_type T H L P K F I U t k h l p)) (
        mutex.the_sync (guarded.the_row T H L P K F I U t k h l p) (guarded_send set table publisher kind kinds face inner faces),
        (plain_sync _ _ _ _ _, (heap.the_field_sync, tt)),
      )))

captured_sync : (Ts : List RattleType) → AllSync Ts → AllSync (rows (parts Ts))
captured_sync [] each = tt
captured_sync (T ∷ Ts) each = (each.0, captured_sync Ts each.1)

pub captures_sync : (Ts : List RattleType) → AllSync Ts → IsSync (TupleAt [] Ts)
captures_sync Ts each = recorded_sync (field_at [] Ts).row _ _ (type_at [] Ts).to_one (struct_sync (shape (type_at [] Ts)) (captured_sync Ts each))
