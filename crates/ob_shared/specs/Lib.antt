pub mod Told
pub mod Chains
pub mod Later
pub mod Publisher
