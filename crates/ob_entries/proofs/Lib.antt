pub mod Escaped
pub mod Values
