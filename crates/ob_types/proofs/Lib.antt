mod Runs
pub mod UnnoticedParts
pub mod UnnoticedSteps
pub mod UnnoticedRuns
