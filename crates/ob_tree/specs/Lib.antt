pub mod Surveyed
pub mod Index
pub mod Tree
