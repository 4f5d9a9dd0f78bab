pub mod Runs
pub mod Firsts
pub mod Talks
pub mod Answered
