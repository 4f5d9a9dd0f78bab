pub mod Reading
pub mod Component
pub mod Splitting
