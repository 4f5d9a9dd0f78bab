pub mod Instance
pub mod Refused
pub mod Again
pub mod Waiting
pub mod Refusing
