pub mod CallsMade
pub mod Recorded
pub mod WholeRuns
pub mod Names
