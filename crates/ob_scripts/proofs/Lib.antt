pub mod Told
pub mod Listed
pub mod Finals
pub mod Totals
pub mod Behind
pub mod Offsets
pub mod AlikeShown
