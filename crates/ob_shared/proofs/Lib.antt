pub mod Chained
pub mod Lent
pub mod Onward
pub mod Keeping
