pub mod Lines
pub mod Grammar
pub mod Changes
pub mod Script
pub mod Misfits
pub mod Verbs
