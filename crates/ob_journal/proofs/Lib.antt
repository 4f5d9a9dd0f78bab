pub mod Runs
pub mod SoFar
pub mod Choosing
pub mod Turns
pub mod Cut
