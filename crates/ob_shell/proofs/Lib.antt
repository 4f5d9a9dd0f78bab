pub mod Served
pub mod Faults
pub mod Flags
pub mod Tasks
pub mod Arguments
