pub mod Prefixes
pub mod Follow
pub mod Adding
pub mod Steps
pub mod Leading
