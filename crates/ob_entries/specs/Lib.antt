pub mod Segments
pub mod Lines
pub mod Words
