pub mod Closed
pub mod Walk
pub mod Look
pub mod Remainder
pub mod Prefixes
pub mod Onward
