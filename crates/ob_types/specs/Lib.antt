pub mod Told
pub mod Parsing
pub mod Runs
pub mod Both
pub mod BothLaws
pub mod Parse
pub mod Pending
pub mod Unnoticed
