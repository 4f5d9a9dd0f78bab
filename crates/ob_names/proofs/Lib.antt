pub mod Separators
pub mod Folding
pub mod Splitting
pub mod Parts
