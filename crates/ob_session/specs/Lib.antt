pub mod Taken
pub mod Session
