pub mod Publications
pub mod Rules
pub mod Known
pub mod Leads
pub mod Shown
pub mod Ahead
pub mod Showing
