pub mod Verbs
pub mod VerbRows
pub mod LineForms
pub mod Lined
pub mod Scripted
pub mod Misfitted
pub mod Singled
