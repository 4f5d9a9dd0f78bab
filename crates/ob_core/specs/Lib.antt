pub mod AtOnce
pub mod Reached
pub mod Referent
pub mod Listed
