pub mod Characters
pub mod Values
