pub mod Standard
pub mod Laws
