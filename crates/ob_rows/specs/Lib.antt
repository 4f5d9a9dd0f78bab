pub mod Rows
pub mod Changes
pub mod Hashes
pub mod Stamped
pub mod Index
