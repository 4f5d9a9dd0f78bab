pub mod Namespace
pub mod Orderly
pub mod Roots
pub mod Placing
pub mod Looking
pub mod Early
pub mod Found
pub mod FirstStore
