pub mod Played
pub mod Written
pub mod Worked
pub mod Ended
pub mod Run
pub mod Faults
pub mod Order
