-- The struct of a caller in C owns nothing if it is closed, else the block of its core.
--
-- Source: this profile.
use Rattle.std.specs.Prelude.{ℕ, Bool, true, false, Option, None, Some}
use Rattle.std.specs.Coded.{coded_option}
use Rattle.std.specs.Box.Ownership.{box_owns}
use Rattle.std.specs.Global.{Global}
use Rattle.std_heap.specs.contracts.GlobalAllocator.TheImpl.{ghosts}
use base.Fml.{Fml, ftrue, feq, fsep}
use base.Stored.{Coded}
use denote.RawPtr.{Ptr}
use Rattle.ob_c_state.specs.contracts.machine.HostCore.{the_row}

-- how the logic stores what a struct has
abbrev pub core_coded : Coded (Option the_row.Denot)
core_coded = coded_option the_row.coded

-- whether a core is there
abbrev pub is_open : Option the_row.Denot → Bool
is_open None = false
is_open (Some core) = true

-- the second word of the struct: 0 if it is closed, 1 if it is open
abbrev pub flag_of : Option the_row.Denot → ℕ
flag_of None = 0
flag_of (Some core) = 1

-- the block that the pointer leads to, if there is one
abbrev pub holds_block : Global → Ptr → Option the_row.Denot → Fml
holds_block alloc p None = ftrue
holds_block alloc p (Some core) = box_owns (ghosts.dealloc_token alloc) the_row p core

abbrev pub caller_owns : Global → Ptr → ℕ → Option the_row.Denot → Fml
caller_owns alloc p flag core = fsep (feq ℕ flag (flag_of core)) (holds_block alloc p core)
