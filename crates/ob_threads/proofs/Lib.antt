pub mod Gathered
pub mod Brought
pub mod CutOff
pub mod WorkersPlay
pub mod Seated
pub mod Output
pub mod LentSync
pub mod InOrder
