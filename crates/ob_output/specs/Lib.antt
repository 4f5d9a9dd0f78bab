pub mod Printed
pub mod Misfits
pub mod Gathering
pub mod Fault
pub mod Reading
pub mod Writing
