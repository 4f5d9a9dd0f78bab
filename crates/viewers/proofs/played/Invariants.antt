-- The ledger is the one that is made blank here; the book is the one that was just opened, in which any publications may stand that lead through a run.
use Rattle.ob_device.specs.Device.{device_procedures}
use Rattle.ob_device.specs.declared.device.DeviceSet.{DeviceSet}
use Rattle.ob_device.specs.declared.device.DeviceKind.{DeviceKind}
use Rattle.ob_device.specs.declared.device.DeviceFace.{DeviceFace}
use Rattle.ob_model.specs.declared.state.Row.{Row}
use Rattle.ob_model.specs.Opening.{opening}
use Rattle.ob_shared.specs.Publisher.{LeadThroughRun}
use Rattle.std.proofs.Common.{ℕ, List}
use Rattle.viewers.proofs.played.Given as goal

-- the rows of the opening state
abbrev pub opening_rows : List Row
opening_rows = (opening {K = DeviceKind} {T = DeviceSet} {F = DeviceFace} {I = ℕ} (record {})).rows

abbrev pub ghosts-outcome_of-L-Ledger : goal.ghosts-outcome_of-L-Ledger
ghosts-outcome_of-L-Ledger g a = record { name = a.blank.name; parts = a.blank.parts }

abbrev pub ghosts-outcome_of-J-Naming : goal.ghosts-outcome_of-J-Naming
ghosts-outcome_of-J-Naming g a = record { book = a.opened.seen.book; opening = opening_rows; leads = LeadThroughRun device_procedures }
