pub mod Viewed
pub mod Answered
pub mod Histories
