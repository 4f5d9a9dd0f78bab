pub mod Making
pub mod Shadows
