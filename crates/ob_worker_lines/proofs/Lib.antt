pub mod Apart
pub mod Alike
pub mod Bad
pub mod Whole
pub mod Forms
pub mod SoFar
pub mod Righted
