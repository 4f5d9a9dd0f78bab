pub mod Variables
pub mod Rows
pub mod Tables
pub mod Room
pub mod Commands
pub mod Alike
