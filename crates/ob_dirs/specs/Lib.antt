pub mod Dir
pub mod Hashes
pub mod Index
pub mod Page
pub mod Runs
