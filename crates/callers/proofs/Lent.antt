-- That a shared namespace of devices may be lent to threads.
use denote.Builtin.{unit}
use denote.RattleType.{RattleType}
use denote.Param.Send.{IsSync, plain_send}
use Rattle.std.specs.declared.sync.ledger.Ledger as Ledger
use Rattle.ob_device.specs.contracts.device.DeviceSet as devices
use Rattle.ob_device.specs.contracts.device.DeviceKind as kind
use Rattle.ob_device.specs.contracts.device.DeviceFace as face
use Rattle.ob_plain.specs.contracts.handles.HandleCount as inner
use Rattle.ob_device.specs.contracts.device.DeviceSetTypeSet.TheImpl as set
use Rattle.ob_device.specs.contracts.device.DeviceKindPartialEq.TheImpl as equal
use Rattle.ob_device.proofs.device.DeviceSet.TheSendSync as sets
use Rattle.ob_device.proofs.device.DeviceKind.TheSendSync as kinds
use Rattle.ob_device.proofs.device.DeviceFace.TheSendSync as faces
use Rattle.ob_plain.proofs.handles.HandleCount.TheSendSync as inners
use Rattle.ob_handles.specs.contracts.slab_table.SlabTable as table
use Rattle.ob_handles.specs.contracts.slab_table.SlabTableHandleTable.TheImpl as handles
use Rattle.ob_handles.proofs.slab_table.SlabTable.TheSendSync as tables
use Rattle.std.specs.Prelude.{[]}
use Rattle.ob_published.specs.declared.publishing.Publishing as Publishing
use Rattle.ob_shared.specs.contracts.shared.Shared as shared
use Rattle.ob_shared.proofs.Lent.{shared_sync}

-- nothing is published
abbrev nothing : Publishing.Ghosts unit.Denot unit.Denot
nothing = record { publishes = ⊥; opening = []; leads = λ publications. Unit {0}; recorded = λ publisher. []; shown = λ publisher. []; known = λ published. [] }

module _ (L : RattleType) (l : Ledger.Ghosts L.Denot) where
  -- the namespace, as the logic has it
  abbrev pub space : RattleType
  space = shared.the_row devices.the_row table.the_row L unit kind.the_row face.the_row inner.the_row unit set.ghosts equal.ghosts handles.ghosts l nothing

  pub space_sync : IsSync space
  space_sync =
      shared_sync devices.the_row table.the_row L unit kind.the_row face.the_row inner.the_row unit set.ghosts equal.ghosts handles.ghosts l nothing
      sets.the_send tables.the_send (plain_send _ _ _ _ _) kinds.the_send kinds.the_sync faces.the_send inners.the_send faces.the_sync
