pub mod Cuts
pub mod Spelled
pub mod Flagged
pub mod Handles
pub mod Readings
pub mod Processed
pub mod Paged
pub mod Stopped
