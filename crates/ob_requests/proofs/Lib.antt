pub mod Rows
pub mod Tables
pub mod Written
pub mod Copies
pub mod Alike
pub mod AlikeVariables
