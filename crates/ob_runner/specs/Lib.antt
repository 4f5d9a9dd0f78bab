pub mod Completes
pub use Rattle.ob_opens.specs.Waiting
pub mod Kept
pub mod Begun
pub mod Repeated
pub mod Opens
