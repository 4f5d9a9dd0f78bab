pub mod Seen
pub mod Steps
mod Compose
pub mod Spelling
pub mod Kept
pub mod Separators
pub mod Starts
pub mod Turns
pub mod Onto
pub mod Begins
pub mod Stays
pub mod Staying
pub mod Changing
pub mod Counted
