pub mod Cuts
pub mod Forms
pub mod Parts
pub mod Phases
