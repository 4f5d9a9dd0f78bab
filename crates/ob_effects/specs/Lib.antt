pub use Rattle.ob_runner.specs.Begun
pub use Rattle.ob_standard_core.specs.Machine
pub mod Waiting
pub mod Effects
pub mod Kept
