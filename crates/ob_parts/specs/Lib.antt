pub mod Flags
pub mod Kinds
pub mod Pages
pub mod Parts
pub mod Plain
pub mod Stops
pub mod Text
