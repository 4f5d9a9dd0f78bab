pub mod Coming
pub mod Settling
