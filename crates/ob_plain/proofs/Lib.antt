pub mod Digits
pub mod Decimals
pub mod FirstCalls
pub mod Cuts
pub mod Profile
