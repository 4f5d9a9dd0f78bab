pub mod Entries
pub mod Equality
pub mod Key
pub mod KeyLaws
