pub mod Printed
pub mod Gathered
pub mod Readers
pub mod Writers
