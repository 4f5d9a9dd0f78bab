pub mod Machine
pub mod Caller
pub mod Calls
pub mod Pending
pub mod Reports
pub mod Inherit
