pub mod Texts
pub mod Types
