pub mod Referents
pub mod Objects
pub mod Pages
pub mod Deletions
pub mod Rows
pub mod Handles
pub mod Pending
pub mod Texts
