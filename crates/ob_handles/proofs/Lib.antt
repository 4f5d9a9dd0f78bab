pub mod Maps
pub mod Tables
pub mod Gaps
pub mod Lists
mod Listed
mod Lowered
mod Zeros
mod Counted
pub mod SlabLists
pub mod SlabPlaces
pub mod Stale
pub mod SlabTables
pub mod Inside
pub mod Foreign
pub mod Later
pub mod Cloned
