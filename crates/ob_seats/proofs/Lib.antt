pub mod Told
pub mod Children
pub mod Held
pub mod Keys
pub mod Chained
pub mod Playing
