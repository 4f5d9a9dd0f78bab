pub mod Rising
pub mod Following
pub mod Leading
pub mod Lasting
pub mod Named
