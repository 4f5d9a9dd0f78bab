pub mod Maps
pub mod View
