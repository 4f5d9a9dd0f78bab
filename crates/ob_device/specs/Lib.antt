pub mod Paths
pub mod Device
pub mod DeviceLaws
