pub mod End
pub mod Opening
pub mod Perform
pub mod Refuse
pub mod Serve
pub mod Plan
