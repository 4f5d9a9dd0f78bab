pub mod Sorting
pub mod Ranges
pub mod Lookups
pub mod Collected
pub mod Writing
