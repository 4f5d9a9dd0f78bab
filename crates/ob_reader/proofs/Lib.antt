pub mod Each
pub mod Escapes
pub mod Plain
pub mod ReadBack
pub mod Unescaped
pub mod Values
