pub mod Shown
pub mod Running
pub mod Offsets
pub mod Alike
