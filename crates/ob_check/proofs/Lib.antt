pub mod Reported
pub mod Cleaned
