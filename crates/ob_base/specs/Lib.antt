pub mod Attrs
pub mod Handle
pub mod Status
