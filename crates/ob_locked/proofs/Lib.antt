pub mod Placed
pub mod Pendings
pub mod Starts
pub mod Keeps
