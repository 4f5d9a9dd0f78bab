pub mod AtOnce
pub mod Opened
pub mod Revalued
pub mod Stepped
pub mod Reached
pub mod Referents
pub mod Taken
