-- The part of a caller's object that its procedures see.
use Rattle.std.specs.Prelude.{ℕ, Bool}
use Rattle.ob_host.specs.declared.object.HostObject.{HostObject}

-- the object; the handles that are open to it, at the greatest u32 that many or more; the serial that its first open drew, 0
-- before; and whether a parse made it
pub record Kept : Type 0 where
  pub object : HostObject
  pub handles : ℕ
  pub serial : ℕ
  pub parsed : Bool
