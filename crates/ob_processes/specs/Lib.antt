pub mod ByOrder
pub mod Running
pub mod Counts
pub mod Handed
pub mod Ending
pub mod Pending
