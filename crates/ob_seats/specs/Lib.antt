pub mod Received
pub mod Played
pub mod Kept
pub mod Stopped
