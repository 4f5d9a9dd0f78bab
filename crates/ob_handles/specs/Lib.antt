pub mod Table
pub mod Indexed
pub mod Laws
pub mod Counts
pub mod Openings
pub mod Kept
pub mod Values
