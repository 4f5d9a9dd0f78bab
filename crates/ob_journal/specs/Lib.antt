pub mod Journal
pub mod Played
pub mod Verdict
