pub mod Tickets
pub mod Awaiting
pub mod Sessions
pub mod Answered
pub mod Memory
